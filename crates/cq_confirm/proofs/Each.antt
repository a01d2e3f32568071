-- What is kept lacks a queue, through each change.
use Rattle.std.proofs.Common.{◌≡◌, ℕ, ◌<◌, true, false, cond, None, Some, Result, Ok, Err, OnOk, OnErr, sym, ap, ◌∙◌, subst}
use Rattle.std.specs.Ordering.{nat_cmp, eq_by_cmp}
use Rattle.std.specs.Cmp.{nat_cmp_total}
use Rattle.std.specs.FinMap.{FinMap, empty, get, insert, remove, get-empty, get-insert, get-remove}
use Rattle.cq_confirm.specs.declared.lack.Lack.{Lack}
use Rattle.cq_confirm.specs.Lacking.{EachLacks}

pub each-empty : (m : FinMap nat_cmp Lack) → m ≡ empty → EachLacks m
each-empty m none id l e = let n : None ≡ Some l = sym (ap (λ m. get m id) none ∙ get-empty nat_cmp id) ∙ e in cc

pub each-inserted : (m : FinMap nat_cmp Lack) (k : ℕ) (v : Lack) → EachLacks m → 0 < v.queues → EachLacks (insert m k v)
each-inserted m k v h some id l e =
    (elim (eq_by_cmp nat_cmp id k) as (λ b. cond b (Some v) (get m id) ≡ Some l → 0 < l.queues) [
      | true ↦ λ e. (let same : v ≡ l = cc in subst (λ (x : Lack). 0 < x.queues) same some)
      | false ↦ λ e. h id l e
    ]) (sym (get-insert nat_cmp_total m k v id) ∙ e)

pub each-removed : (m n : FinMap nat_cmp Lack) (k : ℕ) → EachLacks m → n ≡ remove m k → EachLacks n
each-removed m n k h r id l e =
    (elim (eq_by_cmp nat_cmp id k) as (λ b. cond b None (get m id) ≡ Some l → 0 < l.queues) [
      | true ↦ λ e. cc
      | false ↦ λ e. h id l e
    ]) (sym (get-remove nat_cmp_total m k id) ∙ sym (ap (λ m. get m id) r) ∙ e)

-- whether memory was there or not
pub each-either : {T E : Type 0} (r : Result T E) (m n : FinMap nat_cmp Lack) (k : ℕ) (v : Lack) → OnOk r (n ≡ insert m k v) → OnErr r (n ≡ m) → EachLacks m → 0 < v.queues → EachLacks n
each-either (Ok _) m n k v ok err h some = subst EachLacks (sym ok) (each-inserted m k v h some)
each-either (Err _) m n k v ok err h some = subst EachLacks (sym err) h
