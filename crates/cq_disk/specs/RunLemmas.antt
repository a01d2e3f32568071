-- Runs of calls, one after another.
use Rattle.std.proofs.Common.{◌≡◌, ℕ, Option, Some, None, Result, Ok, Err, IsErr, IsErrOf, refl, sym, ◌∙◌, subst, arith}
use Rattle.cq_disk.specs.declared.disk.Disk.{Ghosts}
use Rattle.cq_disk.specs.Call.{BeforeFuse, Called, Caused, CausedOf, Elapses, KeepsPlan, StruckBy, StruckByOf}
use Rattle.cq_disk.specs.Run.{Ran, RanOn}

-- no call
pub ran_none : {D : Type 0} (g : Ghosts D) (d : D) → Ran g d d ⊥
ran_none g d = record {
  later = omega arith;
  faults = omega arith;
  struck = omega arith;
  cause = λ no. absurd no;
  strike = λ no before. absurd no;
  fuse = refl;
  planned = refl;
}

-- a run without a fault, and then another
pub ran_next : {D : Type 0} (g : Ghosts D) (a b c : D) (F G H : Type 0) → (H → G) → Ran g a b F → Ran g b c G → Ran g a c H
ran_next g a b c F G H of first next = record {
  later = omega (arith, first.later, next.later);
  faults = omega (arith, first.faults, next.faults);
  struck = omega (arith, first.struck, next.struck);
  cause = λ h. let rose = next.cause (of h) in omega (arith, first.faults, rose);
  strike = λ h before.
      let rose = next.strike (of h) (subst (λ (f : Option ℕ). BeforeFuse f (g.moment c)) (sym first.fuse) before) in
      omega (arith, first.struck, rose);
  fuse = next.fuse ∙ first.fuse;
  planned = next.planned ∙ first.planned;
}

-- one call
pub ran_call : {D T E : Type 0} (g : Ghosts D) (a b : D) (result : Result T E) (F : Type 0) → Elapses (g.moment a) (g.moment b) (g.left a) (g.left b) → Called g.moment g.faults g.struck g.fuse g.planned a b result F → Ran g a b F
ran_call g a b result F time call = record {
  later = time.later;
  faults = call.faults_later;
  struck = call.struck_later;
  cause = call.cause;
  strike = λ is before. call.strike is (λ at is_at. let lt = before at is_at in omega (arith, lt, time.later));
  fuse = call.fuse_stays;
  planned = call.plan_stays;
}

-- a run on a disk without a fuse
pub unfused_on : {D : Type 0} (g : Ghosts D) (a b : D) (F : Type 0) → g.fuse a ≡ None → Ran g a b F → RanOn g a b F
unfused_on g a b F none run = record {
  later = run.later;
  faults = run.faults;
  struck = run.struck;
  cause = run.cause;
  strike = λ is. run.strike is (λ at some. let clash : None ≡ Some at = sym none ∙ some in cc);
  planned = run.planned;
}

-- and then another
pub ran_on : {D : Type 0} (g : Ghosts D) (a b c : D) (F G H : Type 0) → (H → G) → Ran g a b F → RanOn g b c G → RanOn g a c H
ran_on g a b c F G H of first next = record {
  later = omega (arith, first.later, next.later);
  faults = omega (arith, first.faults, next.faults);
  struck = omega (arith, first.struck, next.struck);
  cause = λ h. let rose = next.cause (of h) in omega (arith, first.faults, rose);
  strike = λ h. let rose = next.strike (of h) in omega (arith, first.struck, rose);
  planned = next.planned ∙ first.planned;
}

-- What the clauses said that stood in the place of `Ran`: it says no less.
pub ran_caused : {D T E : Type 0} (g : Ghosts D) (a b : D) (result : Result T E) → Ran g a b (IsErr result) → Caused (g.faults a) (g.faults b) result
ran_caused g a b (Ok x) run = record { later = run.faults; failed = tt }
ran_caused g a b (Err e) run = record { later = run.faults; failed = run.cause refl }

pub ran_struck : {D T E : Type 0} (g : Ghosts D) (a b : D) (result : Result T E) → Ran g a b (IsErr result) → StruckBy (g.fuse a) (g.moment b) (g.struck a) (g.struck b) result
ran_struck g a b (Ok x) run = record { later = run.struck; failed = tt }
ran_struck g a b (Err e) run = record { later = run.struck; failed = run.strike refl }

pub ran_caused_of : {D T E : Type 0} (g : Ghosts D) (a b : D) (fault : E) (result : Result T E) → Ran g a b (IsErrOf result fault) → CausedOf fault (g.faults a) (g.faults b) result
ran_caused_of g a b fault result run = record { later = run.faults; failed = run.cause }

pub ran_struck_of : {D T E : Type 0} (g : Ghosts D) (a b : D) (fault : E) (result : Result T E) → Ran g a b (IsErrOf result fault) → StruckByOf fault (g.fuse a) (g.moment b) (g.struck a) (g.struck b) result
ran_struck_of g a b fault result run = record { later = run.struck; failed = run.strike }

pub ran_keeps : {D : Type 0} (g : Ghosts D) (a b : D) (F : Type 0) → Ran g a b F → KeepsPlan (g.fuse a) (g.planned a) (g.fuse b) (g.planned b)
ran_keeps g a b F run = record { fuse = run.fuse; planned = run.planned }
