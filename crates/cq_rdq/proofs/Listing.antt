-- The records of a content that was read, and where a chain breaks.
use Rattle.std.proofs.Common.{◌≡◌, inl, inr, ⊎_elim, ℕ, zero, suc, Result, Ok, Err, IfErr, ◌+◌, ◌-◌, ◌<◌, ◌≤◌, Bool, true, false, not, List, [], ◌∷◌, ◌++◌, length, take, drop, get_or, Option, Some, None, refl, sym, ap, ◌∙◌, subst, arith, length-drop}
use Rattle.std.specs.Prelude.{◌==◌, ◌&&◌, ◌||◌, nat_le, if◌then◌else◌, filter, slice_index}
use Rattle.std.proofs.lemmas.Bool.{eqb-false}
use Rattle.std.proofs.lemmas.Bool.Decides.{nat_tests}
use Rattle.std.proofs.lemmas.List.{drop-drop, get_or-drop, get_or-take}
use Rattle.cq_disk.specs.File.{File}
use Rattle.cq_disk.specs.Files.{Among, IsThere, Reads}
use Rattle.cq_disk.specs.There.{there_among}
use Rattle.cq_gate.specs.declared.gate.Gate.{Gate}
use Rattle.cq_gate.specs.Format.{content, plan, content_to}
use Rattle.cq_gate.specs.Gate.{Shows, kind_of, slot_in}
use Rattle.cq_gate.proofs.Formats.{content_is, plan_is, bare_content, bare_plan}
use Rattle.std.proofs.lemmas.Bool.{cases_lt}
use Rattle.cq_block.specs.declared.layout.Block.{Block}
use Rattle.cq_block.specs.Blocks.{IsFront, IsRun, IsCause, NoFront, BreaksAt, told_len, told_id}
use Rattle.cq_block.proofs.Runs.{front_within, run_length, no_run}
use Rattle.cq_rdq.specs.Records.{records_among, ChainHas, Records}
use Rattle.std.proofs.Math.Logic.{∥∥₁_elim}
use Rattle.std.proofs.Math.Seq.{take-append_seam}
use Rattle.cq_rdq.specs.declared.error.RdqError.{RdqError}
use Rattle.cq_rdq.specs.declared.error.RdqError.TheVariants.{Fault, Memory, Damaged}
use Rattle.cq_rdq.specs.Forms.{IsGap, StandFrom, BreaksChain, IfDamaged}
use Rattle.cq_rdq.specs.Errors.{of_gate, of_block}
use Rattle.cq_rdq.specs.Opened.{IsBroken}
use Rattle.cq_gate.specs.declared.error.GateError.{GateError}
use Rattle.cq_gate.specs.declared.error.GateError.TheVariants.{Fault as gate_fault, Damaged as gate_damaged}
use Rattle.cq_gate.specs.Gate.{IfDamaged as if_gate_damaged}
use Rattle.cq_block.specs.declared.layout.BlockError.{BlockError}
use Rattle.cq_block.specs.declared.layout.BlockError.TheVariants.{Memory as block_memory, Broken}
use Rattle.cq_disk.specs.declared.disk.Disk.{Ghosts}
use Rattle.cq_rdq.specs.Rdq.{HasSome}

pub among_filter : (bs : List Block) → filter (λ (b : Block). not (b.id == 0)) bs ≡ records_among bs
among_filter [] = refl
among_filter (b ∷ bs) = elim (b.id == 0) as (λ (x : Bool). (if not x then b ∷ filter (λ (c : Block). not (c.id == 0)) bs else filter (λ (c : Block). not (c.id == 0)) bs) ≡ (if x then records_among bs else b ∷ records_among bs)) [
  | true ↦ among_filter bs
  | false ↦ ap (λ l. b ∷ l) (among_filter bs)
]

-- ---- where records stand

record_short : (all told id : ℕ) → (nat_le 25 all && (nat_le 25 told && (nat_le told all && (id == 0 || nat_le told 1048601)))) ≡ true → (id == 0) ≡ false → told ≤ 1048601
record_short all told id h named = grind (arith, nat_tests)

front_short : (at : ℕ) (bytes : List ℕ) (b : Block) → IsFront at bytes b → (b.id == 0) ≡ false → b.len ≤ 1048601
front_short at bytes b front named =
    let id : b.id ≡ told_id bytes = ap (λ (x : Block). x.id) front.block in
    let len : b.len ≡ told_len bytes = ap (λ (x : Block). x.len) front.block in
    subst (λ (n : ℕ). n ≤ 1048601) (sym len) (record_short (length bytes) (told_len bytes) (told_id bytes) front.head (ap (λ (n : ℕ). n == 0) (sym id) ∙ named))

gap_more : (from at len : ℕ) → IsGap from at → 25 ≤ len → IsGap from (at + len)
gap_more from at len gap long = ⊎_elim (λ same. inr (omega (arith, same, long))) (λ more. inr (omega (arith, more, long))) gap

run_stands : (from at : ℕ) (bytes : List ℕ) (bs : List Block) → IsGap from at → IsRun at bytes bs [] → StandFrom from (at + length bytes) (records_among bs)
run_stands from at bytes [] gap run = let end : at + length bytes ≡ at = omega (arith, ap length run) in subst (IsGap from) (sym end) gap
run_stands from at bytes (b ∷ bs) gap run =
    let w = front_within at bytes b run.0 in
    let here : b.at ≡ at = ap (λ (x : Block). x.at) run.0.block in
    let end : at + b.len + length (drop b.len bytes) ≡ at + length bytes = omega (arith, w.1, length-drop b.len bytes) in
    (elim (b.id == 0) as (λ (x : Bool). (b.id == 0) ≡ x → StandFrom from (at + length bytes) (if x then records_among bs else b ∷ records_among bs)) [
      | true ↦ λ filler. subst (λ (n : ℕ). StandFrom from n (records_among bs)) end (run_stands from (at + b.len) (drop b.len bytes) bs (gap_more from at b.len gap w.0) run.1)
      | false ↦ λ record'. (
        subst (IsGap from) (sym here) gap,
        w.0,
        front_short at bytes b run.0 record',
        eqb-false b.id 0 record',
        subst (λ (n : ℕ). StandFrom (n + b.len) (at + length bytes) (records_among bs)) (sym here) (subst (λ (n : ℕ). StandFrom (at + b.len) n (records_among bs)) end (run_stands (at + b.len) (at + b.len) (drop b.len bytes) bs (inl refl) run.1)),
      )
    ]) refl

pub chain_stands : (bytes : List ℕ) (list : List Block) → ChainHas bytes list → StandFrom 128 (128 + length bytes) list
chain_stands bytes list has = subst (StandFrom 128 (128 + length bytes)) (sym has.are) (run_stands 128 128 bytes has.blocks (inl refl) has.chain)

-- ---- the byte that tells where a chain breaks

run_rest : (at : ℕ) (bytes : List ℕ) (bs : List Block) (rest : List ℕ) → IsRun at bytes bs rest → rest ≡ drop (length bytes - length rest) bytes
run_rest at bytes [] rest run = let none : length bytes - length rest ≡ 0 = omega (arith, ap length run) in sym run ∙ ap (λ (n : ℕ). drop n bytes) (sym none)
run_rest at bytes (b ∷ bs) rest run =
    let w = front_within at bytes b run.0 in
    let left = run_length (at + b.len) (drop b.len bytes) bs rest run.1 in
    let place : b.len + (length (drop b.len bytes) - length rest) ≡ length bytes - length rest = omega (arith, w.1, left, length-drop b.len bytes) in
    run_rest (at + b.len) (drop b.len bytes) bs rest run.1 ∙ drop-drop (length (drop b.len bytes) - length rest) b.len bytes ∙ ap (λ (n : ℕ). drop n bytes) place

head_inside : (all told id : ℕ) → (nat_le 25 all && (nat_le 25 told && (nat_le told all && (id == 0 || nat_le told 1048601)))) ≡ true → (25 ≤ told) × (told ≤ all)
head_inside all told id h = (grind (arith, nat_tests), grind (arith, nat_tests))

-- the place lies in the content, and the byte stands there
abbrev pub Tells : List ℕ → ℕ → ℕ → Type 0
Tells bytes place found = (128 ≤ place) × (place - 128 < length bytes) × (found ≡ get_or bytes (place - 128) 0)

none_found : (k : ℕ) (bytes rest : List ℕ) (place found : ℕ) → rest ≡ drop k bytes → 0 < length rest → NoFront (128 + k) rest place found → Tells bytes place found
none_found k bytes rest place found is more none = ⊎_elim
    (λ head. let at : place - 128 ≡ k + 0 = omega (arith, head.1) in
    (omega (arith, head.1), omega (arith, head.1, more, left), head.2 ∙ ap (λ (l : List ℕ). get_or l 0 0) is ∙ get_or-drop k bytes 0 0 ∙ ap (λ (n : ℕ). get_or bytes n 0) (sym at)))
    (λ last. let at : place - 128 ≡ k + (told_len rest - 1) = omega (arith, last.2) in
    let w = head_inside (length rest) (told_len rest) (told_id rest) last.0 in
    (omega (arith, last.2), omega (arith, last.2, w.0, w.1, left, more), last.3 ∙ ap (λ (l : List ℕ). get_or l (told_len rest - 1) 0) is ∙ get_or-drop k bytes (told_len rest - 1) 0 ∙ ap (λ (n : ℕ). get_or bytes n 0) (sym at)))
    none
  where
    left : length rest ≡ length bytes - k
    left = ap length is ∙ length-drop k bytes

-- the byte that is told stands at the place, which lies in the content
pub breaks_found : (bytes : List ℕ) (place found : ℕ) → BreaksAt bytes place found → Tells bytes place found
breaks_found bytes place found breaks = none_found (length bytes - length breaks.rest) bytes breaks.rest place found (run_rest 128 bytes breaks.blocks breaks.rest breaks.run) breaks.more breaks.none

-- ---- a file that shows what a gate says

take_short : (n : ℕ) (l : List ℕ) → length (take n l) ≤ n
take_short zero l = omega arith
take_short (suc n) [] = omega arith
take_short (suc n) (x ∷ l) = omega (arith, take_short n l)

content_shown : (gate : Gate) (bytes : List ℕ) → Shows gate bytes → content bytes ≡ content_to gate.end bytes
content_shown gate bytes shows = ⊎_elim
    (λ (long : 128 < gate.len). content_is (kind_of gate) (slot_in gate) bytes (shows.selected long))
    (λ (short : gate.len ≤ 128).
    let none : gate.end - 128 ≡ 0 = let bare = gate.bare short in omega (arith, bare.0) in
    bare_content bytes (omega (arith, short, shows.len)) ∙ ap (λ (n : ℕ). take n (drop 128 bytes)) (sym none))
    (cases_lt 128 gate.len)

pub plan_shown : (gate : Gate) (bytes : List ℕ) → Shows gate bytes → (plan bytes).1 ≡ gate.plan_len
plan_shown gate bytes shows = ⊎_elim
    (λ (long : 128 < gate.len). λ i. (plan_is (kind_of gate) (slot_in gate) bytes (shows.selected long) i).1)
    (λ (short : gate.len ≤ 128). let bare = gate.bare short in (λ i. (bare_plan bytes (omega (arith, short, shows.len)) i).1) ∙ sym bare.1)
    (cases_lt 128 gate.len)

-- what was read from 128 on up to the end is the content
read_content : (slot : Option File) (gate : Gate) (read : List ℕ) → length read ≡ gate.end - 128 → Reads slot 128 read → Among slot (λ f. Shows gate f.reads) → Among slot (λ f. Shows gate f.reads × (content f.reads ≡ read))
read_content None gate read len reads none = none
read_content (Some f) gate read len reads shows = (shows, content_shown gate f.reads shows ∙ ap (λ (n : ℕ). take n (drop 128 f.reads)) (sym len) ∙ sym reads)

-- a place in the content is one in the file
content_byte : (gate : Gate) (bytes : List ℕ) (place : ℕ) → Shows gate bytes → 128 ≤ place → place - 128 < length (content bytes) → get_or (content bytes) (place - 128) 0 ≡ get_or bytes place 0
content_byte gate bytes place shows from inside =
    let at : 128 + (place - 128) ≡ place = omega (arith, from) in
    let same = content_shown gate bytes shows in
    ap (λ (l : List ℕ). get_or l (place - 128) 0) same ∙ get_or-take (gate.end - 128) (drop 128 bytes) (place - 128) 0 (within (place - 128) (gate.end - 128) (drop 128 bytes) (subst (λ (l : List ℕ). place - 128 < length l) same inside)) ∙ get_or-drop 128 bytes (place - 128) 0 ∙ ap (λ (n : ℕ). get_or bytes n 0) at
  where
    within : (i n : ℕ) (l : List ℕ) → i < length (take n l) → i < n
    within i n l lt = omega (arith, lt, take_short n l)

-- ---- what a read tells

-- a content that breaks isn't one of a file with records
chain_broken : (file : List ℕ) (place : ℕ) (list : List Block) → BreaksChain file place → Records file list → ⊥
chain_broken file place list breaks are =
    let at = breaks.breaks in
    let has = are.chain breaks.plain in
    no_run 128 (content file) at.blocks has.blocks at.rest (128 + (length (content file) - length at.rest)) place (slice_index file place) at.run at.more at.none has.chain

module _ (gate : Gate) (bytes : List ℕ) (plain : gate.plan_len ≡ 0) (place found : ℕ) (breaks : BreaksAt bytes place found) where
  broken_file : (file : List ℕ) → Shows gate file → content file ≡ bytes → BreaksChain file place × (found ≡ slice_index file place)
  broken_file file shows same =
      let tells = breaks_found bytes place found breaks in
      let byte : found ≡ get_or file place 0 = tells.2 ∙ ap (λ (l : List ℕ). get_or l (place - 128) 0) (sym same) ∙ content_byte gate file place shows tells.0 (subst (λ (l : List ℕ). place - 128 < length l) (sym same) tells.1) in (
        record {
          plain = plan_shown gate file shows ∙ plain;
          breaks = subst (λ (l : List ℕ). BreaksAt l place (slice_index file place)) (sym same) (subst (λ (n : ℕ). BreaksAt bytes place n) byte breaks);
        },
        byte,
      )

  broken_among : (slot : Option File) → Among slot (λ f. Shows gate f.reads × (content f.reads ≡ bytes)) → Among slot (λ f. BreaksChain f.reads place × (found ≡ slice_index f.reads place))
  broken_among None none = none
  broken_among (Some f) shows = broken_file f.reads shows.0 shows.1

-- the content of a gate's file that was read is no chain
pub is_broken : {D : Type 0} (g : Ghosts D) (disk : D) (gate : Gate) (bytes : List ℕ) → length bytes ≡ gate.end - 128 → gate.plan_len ≡ 0 → (g.tells → Among (g.files disk gate.name) (λ f. Shows gate f.reads × (content f.reads ≡ bytes)))
    → (place found : ℕ) → BreaksAt bytes place found → IsBroken g gate.name disk gate.end place found
is_broken g disk gate bytes len plain shows place found breaks = record {
  cause = record { bytes = bytes; len = omega (arith, len, gate.low); breaks = breaks };
  told = λ told. broken_among gate bytes plain place found breaks (g.files disk gate.name) (shows told);
}

-- a file that has records isn't told as damaged
pub never_broken : (slot : Option File) (place found : ℕ) → Among slot (λ f. HasSome f.reads) → Among slot (λ f. BreaksChain f.reads place × (found ≡ slice_index f.reads place)) → ⊥
never_broken None place found nothing breaks = nothing
never_broken (Some f) place found has breaks = let nothing : IsProp ⊥ = hlevel in ∥∥₁_elim has nothing (λ s. chain_broken f.reads place s.0 breaks.0 s.1)

-- a fact of the place and the byte that are told, for another
pub damaged_to : (error : RdqError) (P Q : ℕ → ℕ → Type 0) → ((place found : ℕ) → P place found → Q place found) → IfDamaged error P → IfDamaged error Q
damaged_to Fault P Q step is = tt
damaged_to Memory P Q step is = tt
damaged_to (Damaged place found) P Q step is = step place found is

pub err_to : {T : Type 0} (result : Result T RdqError) (P Q : ℕ → ℕ → Type 0) → ((place found : ℕ) → P place found → Q place found) → IfErr result (λ error. IfDamaged error P) → IfErr result (λ error. IfDamaged error Q)
err_to (Ok v) P Q step is = tt
err_to (Err error) P Q step is = damaged_to error P Q step is

-- the same where a gate or a chain told it
pub gate_damaged_to : (error : GateError) (P Q : ℕ → ℕ → Type 0) → ((place found : ℕ) → P place found → Q place found) → if_gate_damaged error P → IfDamaged (of_gate error) Q
gate_damaged_to gate_fault P Q step is = tt
gate_damaged_to (gate_damaged place found) P Q step is = step place found is

pub block_damaged_to : (error : BlockError) (content : List ℕ) → IsCause content error → IfDamaged (of_block error) (BreaksAt content)
block_damaged_to block_memory content is = tt
block_damaged_to (Broken place found) content is = is.0

pub shows_read : (slot : Option File) (gate : Gate) (read : List ℕ) → length read ≡ gate.end - 128 → Reads slot 128 read → IsThere slot (λ f. Shows gate f.reads) → Among slot (λ f. Shows gate f.reads × (content f.reads ≡ read))
shows_read slot gate read len reads shows = read_content slot gate read len reads (there_among slot (λ f. Shows gate f.reads) shows)

-- what a buffer has that a read filled
pub filled : (bytes into rest : List ℕ) (n : ℕ) → bytes ≡ take n (into ++ rest) → n ≡ length into → bytes ≡ into
filled bytes into rest n is len = is ∙ ap (λ (m : ℕ). take m (into ++ rest)) len ∙ take-append_seam into rest
