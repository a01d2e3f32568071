-- An answer gives the client the body that the journal says.
use Rattle.std.proofs.Common.{◌≡◌, ℕ, ◌<◌, List, [], ◌∷◌, ◌++◌, length, length-set, get_or, set, refl, sym, ap, ◌∙◌, subst, append-nil, inl, inr, get_or-set_other, get_or-set_same}
use Rattle.std.specs.Prelude.{◌==◌, Option, None, Some}
use Rattle.std.proofs.lemmas.Bool.{cases_eq, eq-eqb, ne_eqb, cond-true, cond-false}
use Rattle.std.proofs.lemmas.List.{get_or_default}
use Rattle.cq_journal.specs.declared.event.Entry.{Entry}
use Rattle.cq_journal.specs.declared.reply.Reply.{Reply}
use Rattle.cq_journal.specs.Asks.{own, replies, reply_of}
use Rattle.cq_client.specs.Client.{ClientValue}
use Rattle.cq_confirm.specs.declared.lack.Sure.{Sure}
use Rattle.cq_history.specs.History.{account_at, no_client}
use Rattle.cq_history.specs.Steps.{confirmed_by}

-- each client was given the bodies that the journal says
abbrev IsWhole : List Entry → List ClientValue → Type 0
IsWhole journal clients = (c : ℕ) → c < length clients → replies journal c ≡ (account_at clients c).replies

-- one client has one reply more, and so it says the journal
pub whole-step : (journal now : List Entry) (e : Entry) (clients : List ClientValue) (i : ℕ) (was new : ClientValue) (r s : Reply) → i < length clients → was ≡ get_or clients i was
    → new.account.replies ≡ was.account.replies ++ s ∷ [] → r ≡ s → now ≡ e ∷ journal → ((c : ℕ) → reply_of journal c e.event ≡ own i c r)
    → IsWhole journal clients → IsWhole now (set clients i new)
whole-step journal now e clients i was new r s near read told same is said whole c below = elim (cases_eq i c) [
  | inl here ↦ subst (λ k. replies now k ≡ (account_at (set clients i new) k).replies) here (
      ap (λ (j : List Entry). replies j i) is
      ∙ ap (λ (l : List Reply). replies journal i ++ l) (said i ∙ cond-true (i == i) (r ∷ []) [] (eq-eqb i i refl))
      ∙ ap (λ (l : List Reply). l ++ r ∷ []) (whole i near ∙ ap (λ (x : ClientValue). x.account.replies) (sym (read ∙ get_or_default clients i was no_client near)))
      ∙ ap (λ (x : Reply). was.account.replies ++ x ∷ []) same
      ∙ sym told
      ∙ ap (λ (x : ClientValue). x.account.replies) (sym (get_or-set_same clients i new no_client near)))
  | inr other ↦
      ap (λ (j : List Entry). replies j c) is
      ∙ ap (λ (l : List Reply). replies journal c ++ l) (said c ∙ cond-false (i == c) (r ∷ []) [] (ne_eqb i c other)) ∙ append-nil (replies journal c)
      ∙ whole c (subst (λ n. c < n) (length-set clients i new) below)
      ∙ ap (λ (x : ClientValue). x.account.replies) (sym (get_or-set_other clients i c new no_client (λ e. other (sym e))))
]

-- what gives no reply leaves it so
pub whole-quiet : (journal now : List Entry) (e : Entry) (clients : List ClientValue) → now ≡ e ∷ journal → ((c : ℕ) → reply_of journal c e.event ≡ []) → IsWhole journal clients → IsWhole now clients
whole-quiet journal now e clients is none whole c below = ap (λ (j : List Entry). replies j c) is ∙ ap (λ (l : List Reply). replies journal c ++ l) (none c) ∙ append-nil (replies journal c) ∙ whole c below

pub whole-confirmed : (journal now : List Entry) (clients : List ClientValue) (stamp id : ℕ) (sure : Option Sure) → now ≡ confirmed_by stamp id sure journal → IsWhole journal clients → IsWhole now clients
whole-confirmed journal now clients stamp id None is whole c below = ap (λ (j : List Entry). replies j c) is ∙ whole c below
whole-confirmed journal now clients stamp id (Some s) is whole c below = ap (λ (j : List Entry). replies j c) is ∙ append-nil (replies journal c) ∙ whole c below
