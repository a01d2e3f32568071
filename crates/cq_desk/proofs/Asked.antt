-- What was asked, once a request is answered.
use Rattle.std.proofs.Common.{◌≡◌, ◌≢◌, ℕ, ◌<◌, cond, List, [], ◌∷◌, ◌++◌, sym, ap, ◌∙◌, subst, append-nil, inl, inr}
use Rattle.std.specs.Prelude.{◌==◌, Option, None, Some}
use Rattle.std.proofs.lemmas.Bool.{cases_eq, eq-eqb, ne_eqb, cond-true, cond-false}
use Rattle.cq_inbox.specs.declared.request.Request.{Request}
use Rattle.cq_journal.specs.declared.event.Event.{Event}
use Rattle.cq_journal.specs.declared.event.Event.TheVariants as event
use Rattle.cq_journal.specs.declared.event.Entry.{Entry}
use Rattle.cq_journal.specs.Asks.{own, ask, asks}
use Rattle.cq_core.specs.Answers.{Answers}
use Rattle.cq_client.specs.declared.open.OpenDelivery.{OpenDelivery}
use Rattle.cq_desk.specs.Desk.{kept_of, listed, HasWords}

own-other : {A : Type 0} (client c k : ℕ) (x r : A) → own client c x ≡ r ∷ [] → c ≢ k → own client k x ≡ []
own-other client c k x r e apart = elim (cases_eq client c) [
  | inl same ↦ cond-false (client == k) (x ∷ []) [] (ne_eqb client k (λ z. apart (sym same ∙ z)))
  | inr other ↦ (let bad : [] ≡ r ∷ [] = sym (cond-false (client == c) (x ∷ []) [] (ne_eqb client c other)) ∙ e in cc)
]

pub ask-other : (e : Event) (c k : ℕ) (r : Request) → ask c e ≡ r ∷ [] → c ≢ k → ask k e ≡ []
ask-other (event.Opened lines) c k r e apart = cc
ask-other (event.Published client n id queues body) c k r e apart = own-other client c k _ r e apart
ask-other (event.Delivered client n queue id) c k r e apart = own-other client c k _ r e apart
ask-other (event.Empty client queue) c k r e apart = own-other client c k _ r e apart
ask-other (event.Busy client queue) c k r e apart = own-other client c k _ r e apart
ask-other (event.Acked client n) c k r e apart = own-other client c k _ r e apart
ask-other (event.Unknown client n) c k r e apart = own-other client c k _ r e apart
ask-other (event.Dropped client n) c k r e apart = cc
ask-other (event.Ended client) c k r e apart = own-other client c k _ r e apart
ask-other (event.Confirmed client n id) c k r e apart = cc
ask-other (event.Settled queue id) c k r e apart = cc

pub asked-answered : (old new : List Entry) (c stamp n : ℕ) (r : Request) (kept now : List (Option Request)) (taken : ℕ → List Request) → Answers c r stamp old new
    → kept_of kept c ≡ Some r → kept_of now c ≡ None → ((k : ℕ) → k ≢ c → kept_of now k ≡ kept_of kept k)
    → ((k : ℕ) → k < n → asks old k ++ listed (kept_of kept k) ≡ taken k) → (k : ℕ) → k < n → asks new k ++ listed (kept_of now k) ≡ taken k
asked-answered old new c stamp n r kept now taken answers was none others asked k near = elim (cases_eq c k) [
  | inl same ↦ subst (λ j. asks new j ++ listed (kept_of now j) ≡ taken j) same (
      ap (λ o. asks new c ++ listed o) none ∙ append-nil (asks new c) ∙ ap (λ (j : List Entry). asks j c) answers.added ∙ ap (λ x. asks old c ++ x) answers.asked
      ∙ sym (ap (λ o. asks old c ++ listed o) was) ∙ asked c (subst (λ j. j < n) (sym same) near))
  | inr apart ↦
      ap (λ o. asks new k ++ listed o) (others k (λ z. apart (sym z))) ∙ ap (λ (j : List Entry). asks j k ++ listed (kept_of kept k)) answers.added
      ∙ ap (λ x. x ++ listed (kept_of kept k)) (ap (λ x. asks old k ++ x) (ask-other answers.entry.event c k r answers.asked apart) ∙ append-nil (asks old k)) ∙ asked k near
]

-- the words of all clients, once one's changed
pub words-changed : (opened now : ℕ → List ℕ) (opens after : ℕ → List OpenDelivery) (next : List OpenDelivery) (c n : ℕ) → HasWords (now c) next → ((k : ℕ) → k ≢ c → now k ≡ opened k)
    → ((k : ℕ) → after k ≡ cond (c == k) next (opens k)) → ((k : ℕ) → k < n → HasWords (opened k) (opens k)) → (k : ℕ) → k < n → HasWords (now k) (after k)
words-changed opened now opens after next c n here others is words k near = elim (cases_eq c k) [
  | inl same ↦ subst (HasWords (now k)) (sym (is k ∙ cond-true (c == k) next (opens k) (eq-eqb c k same))) (subst (λ j. HasWords (now j) next) same here)
  | inr apart ↦ subst (λ (w : List ℕ). HasWords w (after k)) (sym (others k (λ z. apart (sym z)))) (subst (HasWords (opened k)) (sym (is k ∙ cond-false (c == k) next (opens k) (ne_eqb c k apart))) (words k near))
]
