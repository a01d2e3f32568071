-- What opening knows of a file by its gate.
use Rattle.std.proofs.Common.{◌≡◌, ⊎_elim, ℕ, ◌<◌, ◌≤◌, List, Option, Some, None, sym, subst, arith}
use Rattle.std.specs.Prelude.{slice_index}
use Rattle.std.proofs.lemmas.Bool.{cases_lt}
use Rattle.cq_disk.specs.declared.name.Name.{Name}
use Rattle.cq_disk.specs.File.{File}
use Rattle.cq_disk.specs.Files.{Among, IsThere}
use Rattle.cq_disk.specs.Moments.{among_is}
use Rattle.cq_disk.specs.There.{there_step}
use Rattle.cq_gate.specs.declared.gate.Gate.{Gate}
use Rattle.cq_gate.specs.Calls.{BreaksHeader, IsOpened as gate_opened}
use Rattle.cq_gate.specs.Gate.{IsGate, Shows}
use Rattle.cq_block.specs.declared.layout.Block.{Block}
use Rattle.cq_block.proofs.Runs.{run_length}
use Rattle.cq_rdq.specs.Calls.{IsOpened}
use Rattle.cq_rdq.specs.Forms.{BreaksChain, BreaksShared}
use Rattle.cq_rdq.specs.Forms.BreaksShared.{InHeader, InChain}
use Rattle.cq_rdq.specs.Opened.{ReadBroken}
use Rattle.cq_rdq.specs.Records.{Records}
use Rattle.cq_rdq.specs.declared.rdq.Rdq.{Rdq}

-- a gate that was opened says what its file has
pub gate_shows : (files : Name → Option File) (gate : Gate) (name : Name) → gate.name ≡ name → IsThere (files name) (gate_opened gate) → IsThere (files gate.name) (λ f. Shows gate f.reads)
gate_shows files gate name named opened = subst (λ (n : Name). IsThere (files n) (λ f. Shows gate f.reads)) (sym named) (there_step (files name) (gate_opened gate) (λ f. Shows gate f.reads) (λ f is. is.shows) opened)

-- a header that breaks a rule is a shared file's
pub header_shared : (slot : Option File) (place found : ℕ) → Among slot (BreaksHeader 3 place found) → Among slot (λ f. BreaksShared f.reads place × (found ≡ slice_index f.reads place))
header_shared None place found is = is
header_shared (Some f) place found is = (InHeader is.long is.breaks, is.found_is)

-- and so is a content that is no chain
pub chain_shared : (slot : Option File) (place found : ℕ) → Among slot (λ f. BreaksChain f.reads place × (found ≡ slice_index f.reads place)) → Among slot (λ f. BreaksShared f.reads place × (found ≡ slice_index f.reads place))
chain_shared None place found is = is
chain_shared (Some f) place found is = (InChain is.0, is.1)

-- a gate with a plan, or with a content that breaks, isn't bare
pub planned_long : (gate : Gate) → (gate.plan_len ≡ 0 → ⊥) → 128 < gate.len
planned_long gate planned = ⊎_elim (λ (long : 128 < gate.len). long) (λ (short : gate.len ≤ 128). let bare = gate.bare short in absurd (planned bare.1)) (cases_lt 128 gate.len)

pub broken_long : (gate : Gate) (place found : ℕ) → ReadBroken gate.end place found → 128 < gate.len
broken_long gate place found broken = ⊎_elim
    (λ (long : 128 < gate.len). long)
    (λ (short : gate.len ≤ 128).
    let bare = gate.bare short in
    let at = broken.breaks in
    absurd (omega (arith, bare.0, broken.len, at.more, run_length 128 broken.bytes at.blocks at.rest at.run)))
    (cases_lt 128 gate.len)

-- a file that was opened, by its gate and its records
pub is_opened : (rdq : Rdq) (gate : Gate) (slot : Option File) (list : List Block) → rdq.gate ≡ gate → IsThere slot (gate_opened gate) → Among slot (λ f. Records f.reads list) → IsThere slot (IsOpened rdq)
is_opened rdq gate slot list same opened records = record {
  is_some = opened.is_some;
  has = λ f here.
      let is = opened.has f here in
      let are : Records f.reads list = among_is slot (λ f. Records f.reads list) f here records in
      record {
        shows = subst (λ (x : Gate). Shows x f.reads) (sym same) is.shows;
        some = ∣ (list, are) ∣₁;
        is = λ all. record { is = subst (λ (x : Gate). IsGate x f) (sym same) (is.is all); some = ∣ (list, are) ∣₁ };
      };
}
