-- What the top call answers, by its status.
use Rattle.std.proofs.Common.{◌≡◌, ◌⊎◌, ◌≤◌, ℕ, List, [], Result, Ok, Err, refl, sym, ◌∙◌, subst, inl, inr}
use Rattle.cq_disk.specs.declared.disk.Disk.{Ghosts}
use Rattle.cq_disk.specs.Call.{Caused}
use Rattle.cq_disk.specs.Run.{RanOn}
use Rattle.cq_io.specs.Streams.{PutAdds}
use Rattle.cq_io.specs.declared.sink.Sink.{Ghosts as SinkGhosts}
use Rattle.cq_io.specs.declared.sink.OutputFault.{OutputFault}
use Rattle.cq_io.specs.declared.status.Status.{Status}
use Rattle.cq_io.specs.declared.status.Status.TheVariants as status
use Rattle.cq_replay.specs.declared.playing.Ending.{Ending}
use Rattle.cq_replay.specs.declared.playing.Ending.TheVariants as ending
use Rattle.cq_journal.specs.declared.session.Session.{Session}
use Rattle.cq_replay.specs.Played.{HasFailed, IsLeft}
use Rattle.cq_replay.specs.Outcomes.{IsEnding, IsRefusal, IfRefused, StatusOf, TookLine, IsHeld, HasCauses}
use Rattle.cq_replay.proofs.Endings.{on_none, on_less}

-- a line that was put
pub took_line : {W : Type 0} (w : SinkGhosts W) (old new : W) (result : Result (Unit {0}) OutputFault) (line : List ℕ) → PutAdds (w.pieces old) (w.pieces new) result line → Caused (w.faults old) (w.faults new) result → TookLine w old new line
took_line w old new (Ok v) line put cause = inl put
took_line w old new (Err e) line put cause = inr (cause.failed, put)

-- a refusal, by its status
pub if_refused : (s : Status) (P : Type 0) → P → IfRefused s P
if_refused status.Words P p = p
if_refused status.Script P p = p
if_refused status.InputFault P p = p
if_refused status.Ok P p = tt
if_refused status.DiskFault P p = tt
if_refused status.Memory P p = tt
if_refused status.OutputFault P p = tt

-- what a session ends with is none
pub ending_refused : (s : Status) (P : Type 0) → IsEnding s → IfRefused s P
ending_refused status.Words P end = absurd end
ending_refused status.Script P end = absurd end
ending_refused status.InputFault P end = absurd end
ending_refused status.Ok P end = tt
ending_refused status.DiskFault P end = tt
ending_refused status.Memory P end = tt
ending_refused status.OutputFault P end = tt

-- a fault of the disk is told where the serving failed
pub fault_was : (end : Ending) (s : Status) → StatusOf end s → s ≡ status.DiskFault → HasFailed end
fault_was (ending.Opening e) s of is = tt
fault_was (ending.Failed e) s of is = tt
fault_was ending.Served s of is = absurd (subst (StatusOf ending.Served) is of)
fault_was ending.Output s of is = (let clash : status.OutputFault ≡ status.DiskFault = sym of ∙ is in cc)
fault_was ending.Memory s of is = (let clash : status.Memory ≡ status.DiskFault = sym of ∙ is in cc)

-- a refusal is no fault of the disk or of the sink
pub no_disk : (s : Status) → IsRefusal s → s ≡ status.DiskFault → ⊥
no_disk s refusal is = subst IsRefusal is refusal

pub no_output : (s : Status) → IsRefusal s → s ≡ status.OutputFault → ⊥
no_output s refusal is = subst IsRefusal is refusal

pub no_ok : (s : Status) → IsRefusal s → s ≡ status.Ok → ⊥
no_ok s refusal is = subst IsRefusal is refusal

pub refused_causes : {D W : Type 0} (g : Ghosts D) (w : SinkGhosts W) (before now : D) (old new : W) (s : Status) → IsRefusal s → now ≡ before → w.faults old ≤ w.faults new → HasCauses g w before now old new s
refused_causes g w before now old new s refusal same later = record {
  disk = on_less g before now ⊥ (s ≡ status.DiskFault) (no_disk s refusal) (subst (λ d. RanOn g before d ⊥) (sym same) (on_none g before));
  sink = record { later = later; cause = λ is. absurd (no_output s refusal is) };
}

-- all was served where Ok is answered
pub was_served : (end : Ending) (s : Status) → StatusOf end s → s ≡ status.Ok → end ≡ ending.Served
was_served ending.Served s of is = refl
was_served (ending.Opening e) s of is = (let clash : status.DiskFault ≡ status.Ok = sym of ∙ is in cc)
was_served (ending.Failed e) s of is = (let clash : status.DiskFault ≡ status.Ok = sym of ∙ is in cc)
was_served ending.Output s of is = (let clash : status.OutputFault ≡ status.Ok = sym of ∙ is in cc)
was_served ending.Memory s of is = (let clash : status.Memory ≡ status.Ok = sym of ∙ is in cc)

-- a fault of the sink is told where a text failed, or the last line
pub output_was : (end : Ending) (s : Status) → StatusOf end s → s ≡ status.OutputFault → (end ≡ ending.Output) ⊎ (end ≡ ending.Served)
output_was ending.Served s of is = inr refl
output_was ending.Output s of is = inl refl
output_was (ending.Opening e) s of is = (let clash : status.DiskFault ≡ status.OutputFault = sym of ∙ is in cc)
output_was (ending.Failed e) s of is = (let clash : status.DiskFault ≡ status.OutputFault = sym of ∙ is in cc)
output_was ending.Memory s of is = (let clash : status.Memory ≡ status.OutputFault = sym of ∙ is in cc)

-- a refusal holds nothing
pub refused_held : {D W : Type 0} (g : Ghosts D) (w : SinkGhosts W) (disk : D) (old new : W) (s : Status) (sessions : List Session) → IsRefusal s → sessions ≡ [] → IsHeld g w disk old new s sessions
refused_held g w disk old new s sessions refusal none = record {
  held = λ is. absurd (no_ok s refusal is);
  texts = λ is. absurd (no_ok s refusal is);
  left = subst (IsLeft g disk) (sym none) (record { agrees = λ image is. tt; by = tt });
}

-- a status that a session ends with is no failed read
pub no_input : (s : Status) → IsEnding s → s ≡ status.InputFault → ⊥
no_input s end is = subst IsEnding is end
