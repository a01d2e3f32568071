-- What survives a longer journal.
use Rattle.cq_journal.specs.Lists.{IsSublist}
use Rattle.std.proofs.Common.{◌≡◌, ℕ, Bool, true, false, List, [], ◌∷◌, ◌++◌, refl, sym, ap, ◌∙◌, subst, append-nil}
use Rattle.std.specs.Prelude.{◌==◌, ◌||◌, if◌then◌else◌}
use Rattle.std.proofs.lemmas.Bool.{or_parts, or_from, and_right, eqb-true}
use Rattle.std.proofs.lemmas.List.Folds.{list_any-append}
use Rattle.cq_bytes.specs.Numbers.{contains}
use Rattle.cq_journal.specs.declared.event.Event.{Event}
use Rattle.cq_journal.specs.declared.event.Event.TheVariants.{Opened, Published, Confirmed, Settled}
use Rattle.cq_journal.specs.declared.event.Entry.{Entry}
use Rattle.cq_journal.specs.declared.event.Message.{Message}
use Rattle.cq_journal.specs.History.{has_id, adds, line, acked, removes, open_deliveries, settled, settles}
use Rattle.cq_journal.specs.Legal.{brings, is_publish, has, Allowed, Legal}
use Rattle.cq_journal.proofs.Laws.{line-unbrought, distinct-line}
use Rattle.cq_folder.specs.Survives.{makes_sure, SurvivesIn}
use Rattle.cq_folder.specs.Standing.{IsQuiet}
use Rattle.cq_folder.proofs.Sublists.{sublist_front, sublist_distinct, any_left, any_both, any_first, clash}

-- ---- more messages are held

pub more_survive : (past : List Entry) (q : ℕ) (l ms : List Message) → Legal past → SurvivesIn past q l → IsSublist (l ++ ms) (line past q) → ((x : ℕ) → contains (settled past q) x ≡ true → has_id ms x ≡ false) → SurvivesIn past q (l ++ ms)
more_survive past q l ms legal s sublist unsettled = record {
  sublist = sublist;
  once = sublist_distinct (l ++ ms) (line past q) sublist (distinct-line past q legal);
  kept = λ x there sure waiting. any_first (λ m. m.id == x) l ms (s.kept x there sure waiting);
  gone = λ x gone. any_both (λ m. m.id == x) l ms (s.gone x gone) (unsettled x gone);
}

-- ---- an entry more

-- a message that stands in each queue is confirmed
pub confirmed_survives : (past : List Entry) (stamp c n id q : ℕ) (l : List Message) → SurvivesIn past q l → (has_id (line past q) id ≡ true → contains (acked past q) id ≡ false → has_id l id ≡ true)
    → SurvivesIn (record { event = Confirmed c n id; stamp = stamp } ∷ past) q l
confirmed_survives past stamp c n id q l s stands = record {
  sublist = subst (IsSublist l) (sym (append-nil (line past q))) s.sublist;
  once = s.once;
  kept = λ x there sure waiting.
      let there' : has_id (line past q) x ≡ true = ap (λ (ms : List Message). has_id ms x) (sym (append-nil (line past q))) ∙ there in
      let waiting' : contains (acked past q) x ≡ false = any_left (λ y. y == x) (acked past q) [] waiting in
      (elim (id == x) as (λ (b : Bool). (id == x) ≡ b → (b || has (makes_sure q x) past) ≡ true → has_id l x ≡ true) [
        | true ↦ λ same either. (let e : id ≡ x = eqb-true id x same in
            subst (λ (y : ℕ). has_id (line past q) y ≡ true → contains (acked past q) y ≡ false → has_id l y ≡ true) e stands there' waiting')
        | false ↦ λ other before. s.kept x there' before waiting'
      ]) refl sure;
  gone = λ x gone. s.gone x (ap (λ (xs : List ℕ). contains xs x) (sym (append-nil (settled past q))) ∙ gone);
}

-- an id that no entry brought isn't sure
sure-published : (past : List Entry) (c n x : ℕ) → has (brings x) past ≡ false → has (is_publish c n x) past ≡ false
sure-published [] c n x h = refl
sure-published (e ∷ past) c n x h =
    let parts = or_parts _ _ h in or_from _ _ (here e.event parts.0) (sure-published past c n x parts.1)
  where
    here : (e : Event) → brings x e ≡ false → is_publish c n x e ≡ false
    here (Published c' n' id queues body) h = and_right _ (id == x) h
    here _ h = refl

sure-here : (past : List Entry) (e : Event) (q x : ℕ) → Allowed past e → brings x e ≡ false → has (brings x) past ≡ false → makes_sure q x e ≡ false
sure-here past (Opened lines) q x l here before = line-unbrought (record { event = Opened lines; stamp = 0 } ∷ []) q x (or_from _ _ here refl)
sure-here past (Confirmed c n id) q x l here before = (elim (id == x) as (λ (b : Bool). (id == x) ≡ b → b ≡ false) [
  | true ↦ λ same. clash (has (is_publish c n id) past) (subst (λ (y : ℕ). has (is_publish c n y) past ≡ false) (sym (eqb-true id x same)) (sure-published past c n x before)) l.0
  | false ↦ λ other. refl
]) refl
sure-here past _ q x l here before = refl

pub sure-unbrought : (past : List Entry) (q x : ℕ) → Legal past → has (brings x) past ≡ false → has (makes_sure q x) past ≡ false
sure-unbrought [] q x l h = refl
sure-unbrought (e ∷ past) q x l h =
    let parts = or_parts _ _ h in or_from _ _ (sure-here past e.event q x l.0 parts.0 parts.1) (sure-unbrought past q x l.3 parts.1)

quiet_unsure : (e : Event) (q x : ℕ) → IsQuiet e → makes_sure q x e ≡ false
quiet_unsure (Opened lines) q x quiet = absurd quiet
quiet_unsure (Confirmed c n id) q x quiet = absurd quiet
quiet_unsure _ q x quiet = refl

quiet_unsettled : (e : Event) (q : ℕ) → IsQuiet e → settles q e ≡ []
quiet_unsettled (Settled queue id) q quiet = absurd quiet
quiet_unsettled _ q quiet = refl

-- what a quiet entry brings is not sure yet
quiet_fresh : (past : List Entry) (e : Event) (q x : ℕ) → Legal past → Allowed past e → IsQuiet e → has_id (adds q e) x ≡ true → has (makes_sure q x) past ≡ false
quiet_fresh past (Opened lines) q x legal l quiet new = absurd quiet
quiet_fresh past (Published c n id queues body) q x legal l quiet new = (elim (contains queues q) as (λ (b : Bool). has_id (if b then record { id = id; body = body } ∷ [] else []) x ≡ true → has (makes_sure q x) past ≡ false) [
  | true ↦ λ new. (elim (id == x) as (λ (b : Bool). (id == x) ≡ b → (b || false) ≡ true → has (makes_sure q x) past ≡ false) [
    | true ↦ λ same yes'. sure-unbrought past q x legal (subst (λ (y : ℕ). has (brings y) past ≡ false) (eqb-true id x same) l.1)
    | false ↦ λ other none. clash false refl none
  ]) refl new
  | false ↦ λ none. clash false refl none
]) new
quiet_fresh past _ q x legal l quiet none = clash false refl none

-- an entry that confirms and settles nothing, and opens nothing
pub quiet_survives : (past : List Entry) (e : Entry) (q : ℕ) (l : List Message) → Legal (e ∷ past) → IsQuiet e.event → SurvivesIn past q l → SurvivesIn (e ∷ past) q l
quiet_survives past e q l legal quiet s = record {
  sublist = sublist_front l (line past q) (adds q e.event) s.sublist;
  once = s.once;
  kept = λ x there sure waiting.
      let before : has (makes_sure q x) past ≡ true = ap (λ (b : Bool). b || has (makes_sure q x) past) (sym (quiet_unsure e.event q x quiet)) ∙ sure in
      let waiting' : contains (acked past q) x ≡ false = any_left (λ y. y == x) (acked past q) (removes q (open_deliveries past) e.event) waiting in
      let either : (has_id (line past q) x || has_id (adds q e.event) x) ≡ true = sym (list_any-append (λ m. m.id == x) (line past q) (adds q e.event)) ∙ there in
      (elim (has_id (line past q) x) as (λ (b : Bool). has_id (line past q) x ≡ b → (b || has_id (adds q e.event) x) ≡ true → has_id l x ≡ true) [
        | true ↦ λ old any. s.kept x old before waiting'
        | false ↦ λ none any. clash (has (makes_sure q x) past) (quiet_fresh past e.event q x legal.3 legal.0 quiet any) before
      ]) refl either;
  gone = λ x gone. s.gone x (ap (λ (xs : List ℕ). contains xs x) (sym (ap (λ (xs : List ℕ). settled past q ++ xs) (quiet_unsettled e.event q quiet) ∙ append-nil (settled past q))) ∙ gone);
}

-- a message that is held no more is settled
pub settled_survives : (past : List Entry) (stamp r id q : ℕ) (l : List Message) → SurvivesIn past q l → (r ≡ q → has_id l id ≡ false) → SurvivesIn (record { event = Settled r id; stamp = stamp } ∷ past) q l
settled_survives past stamp r id q l s lost = record {
  sublist = subst (IsSublist l) (sym (append-nil (line past q))) s.sublist;
  once = s.once;
  kept = λ x there sure waiting. s.kept x (ap (λ (ms : List Message). has_id ms x) (sym (append-nil (line past q))) ∙ there) sure (any_left (λ y. y == x) (acked past q) [] waiting);
  gone = λ x gone.
      let either : (contains (settled past q) x || contains (settles q (Settled r id)) x) ≡ true = sym (list_any-append (λ y. y == x) (settled past q) (settles q (Settled r id))) ∙ gone in
      (elim (contains (settled past q) x) as (λ (b : Bool). contains (settled past q) x ≡ b → (b || contains (settles q (Settled r id)) x) ≡ true → has_id l x ≡ false) [
        | true ↦ λ before any. s.gone x before
        | false ↦ λ new any. here x any
      ]) refl either;
}
  where
    here : (x : ℕ) → contains (if r == q then id ∷ [] else []) x ≡ true → has_id l x ≡ false
    here x any = (elim (r == q) as (λ (b : Bool). (r == q) ≡ b → contains (if b then id ∷ [] else []) x ≡ true → has_id l x ≡ false) [
      | true ↦ λ own one. (elim (id == x) as (λ (b : Bool). (id == x) ≡ b → (b || false) ≡ true → has_id l x ≡ false) [
        | true ↦ λ same is. subst (λ (y : ℕ). has_id l y ≡ false) (eqb-true id x same) (lost (eqb-true r q own))
        | false ↦ λ other is. clash false refl is
      ]) refl one
      | false ↦ λ other is. clash false refl is
    ]) refl any
