-- What is kept at an opening.
use Rattle.std.proofs.Common.{◌≡◌, ℕ, zero, suc, ◌^◌, ◌<◌, List, [], ◌∷◌, ◌++◌, refl, sym, ap, ◌∙◌, subst, arith}
use Rattle.std.specs.Prelude.{◌==◌, None, Some}
use Rattle.std.specs.List.{list_any}
use Rattle.std.specs.Ordering.{nat_cmp}
use Rattle.std.specs.FinMap.{FinMap, get, empty, get-empty}
use Rattle.std.proofs.lemmas.Bool.{false≢true, or_left, or_from}
use Rattle.cq_bytes.specs.Numbers.{contains}
use Rattle.cq_journal.specs.declared.event.Event.TheVariants as event
use Rattle.cq_journal.specs.declared.event.Entry.{Entry}
use Rattle.cq_journal.specs.declared.lines.Line.{Line}
use Rattle.cq_journal.specs.Legal.{AreLines}
use Rattle.cq_confirm.specs.declared.lack.Lack.{Lack}
use Rattle.cq_core.specs.Ids.{Numbering, SameIds, IsLeastFree}
use Rattle.cq_client.specs.Client.{Account, ClientValue, no_account}
use Rattle.cq_history.specs.History.{account_at}
use Rattle.cq_history.specs.Kept.{AreIdsOf, IsAccount, IsHistory}
use Rattle.cq_history.specs.Steps.{noted}

pub accounts-push : (clients : List ClientValue) (k : ClientValue) → k.account ≡ no_account → ((c : ℕ) → account_at clients c ≡ no_account) → (c : ℕ) → account_at (clients ++ k ∷ []) c ≡ no_account
accounts-push [] k e h zero = e
accounts-push [] k e h (suc c) = refl
accounts-push (x ∷ clients) k e h zero = h zero
accounts-push (x ∷ clients) k e h (suc c) = accounts-push clients k e (λ d. h (suc d)) c

pub kept-opened : (stamp n : ℕ) (lines : List Line) (taken : List ℕ) (accounts : ℕ → Account) (lacks : FinMap nat_cmp Lack) (ids : Numbering) → AreLines lines → AreIdsOf lines taken → n < 2 ^ 32
    → ((c : ℕ) → accounts c ≡ no_account) → lacks ≡ empty → SameIds taken ids.taken → IsLeastFree ids.taken 1 ids.next → ids.given ≡ 0
    → IsHistory (noted (event.Opened lines) stamp []) accounts n lacks ids
kept-opened stamp n lines taken accounts lacks ids are taken_are few no_accounts no_lack same least no_given =
    let journal : List Entry = record { event = event.Opened lines; stamp = stamp } ∷ [] in
    let gets : (x : ℕ) → get lacks x ≡ None = λ x. ap (λ m. get m x) no_lack ∙ get-empty nat_cmp x in
    let brought : (x : ℕ) → list_any (λ (l : Line). l.id == x) lines ≡ contains ids.taken x = λ x. sym (same x ∙ taken_are x) in
    record {
      legal = ((refl, are), tt, omega arith, tt);
      some = omega arith;
      next_ids = (tt, tt);
      ids_are = record {
        free = least.free;
        some = omega (arith, least.from_on);
        taken = λ x there. or_left _ _ (brought x ∙ there);
        below = λ x some below. or_left _ _ (brought x ∙ least.least x (omega (arith, some)) below);
        above = λ x above free. or_from _ _ (brought x ∙ free) refl;
        given = omega (arith, no_given);
      };
      each_lacks = λ x l there. (let bad : None ≡ Some l = sym (gets x) ∙ there in cc);
      owed = λ x l there. (let bad : None ≡ Some l = sym (gets x) ∙ there in cc);
      decided = λ c k x there. absurd (false≢true there);
      unbrought = λ x free. refl;
      few = few;
      accounts_are = λ c below. subst (IsAccount journal c) (sym (no_accounts c)) (record { opens_are = refl; below = tt; published_is = refl; delivered_is = refl; replies_are = refl });
    }
