-- In a legal history one id has one body, and what survives is sound.
use Rattle.cq_journal.specs.Lists.{IsIn}
use Rattle.std.proofs.Common.{◌≡◌, ◌≢◌, inl, inr, ⊎_elim, ℕ, Bool, true, false, cond, List, [], ◌∷◌, refl, sym, ap, ◌∙◌, subst}
use Rattle.std.specs.Prelude.{◌==◌}
use Rattle.cq_bytes.specs.Numbers.{contains}
use Rattle.cq_journal.specs.declared.event.Event.{Event}
use Rattle.cq_journal.specs.declared.event.Event.TheVariants.{Opened, Published}
use Rattle.cq_journal.specs.declared.event.Entry.{Entry}
use Rattle.cq_journal.specs.declared.event.Message.{Message}
use Rattle.cq_journal.specs.declared.lines.Line.{Line}
use Rattle.cq_journal.specs.History.{has_id, opened_in, adds, line}
use Rattle.cq_journal.specs.Legal.{AreLines, Allowed, Legal}
use Rattle.cq_journal.proofs.Laws.{line-unbrought}
use Rattle.cq_folder.specs.Survives.{Survives}
use Rattle.cq_folder.specs.Steady.{AreSound}
use Rattle.cq_folder.proofs.Sublists.{sublist_in, in_append, in_has, all_in, clash}

-- ---- the lines of an opening

abbrev IsOf : Line → Message → Type 0
IsOf l m = (l.id ≡ m.id) × (l.body ≡ m.body)

line_of : (q : ℕ) (ls : List Line) (m : Message) → IsIn (opened_in q ls) m → (l : Line) × (IsIn ls l × IsOf l m)
line_of q [] m there = absurd there
line_of q (l ∷ ls) m there = (elim (l.queue == q) as (λ (b : Bool). IsIn (cond b (record { id = l.id; body = l.body } ∷ opened_in q ls) (opened_in q ls)) m → (k : Line) × (IsIn (l ∷ ls) k × IsOf k m)) [
  | true ↦ λ there. ⊎_elim (λ here. (l, (inl refl, (ap (λ (k : Message). k.id) here, ap (λ (k : Message). k.body) here)))) (λ later. let k = line_of q ls m later in (k.0, (inr k.1.0, k.1.1))) there
  | false ↦ λ there. let k = line_of q ls m there in (k.0, (inr k.1.0, k.1.1))
]) there

lines_agree : (ls : List Line) (a b : Line) → AreLines ls → IsIn ls a → IsIn ls b → a.id ≡ b.id → a.body ≡ b.body
lines_agree [] a b are here there same = absurd here
lines_agree (l ∷ ls) a b are here there same = ⊎_elim
    (λ (a_is : l ≡ a). ⊎_elim
    (λ (b_is : l ≡ b). ap (λ (k : Line). k.body) (sym a_is ∙ b_is))
    (λ later. ap (λ (k : Line). k.body) (sym a_is) ∙ (all_in (λ k. l.id ≡ k.id → (l.queue ≢ k.queue) × (l.body ≡ k.body)) ls b are.0 later (ap (λ (k : Line). k.id) a_is ∙ same)).1) there)
    (λ earlier. ⊎_elim
    (λ (b_is : l ≡ b). sym ((all_in (λ k. l.id ≡ k.id → (l.queue ≢ k.queue) × (l.body ≡ k.body)) ls a are.0 earlier (ap (λ (k : Line). k.id) b_is ∙ sym same)).1) ∙ ap (λ (k : Line). k.body) b_is)
    (λ later. lines_agree ls a b are.1 earlier later same) there) here

pub opened_agree : (ls : List Line) (q r : ℕ) (m k : Message) → AreLines ls → IsIn (opened_in q ls) m → IsIn (opened_in r ls) k → m.id ≡ k.id → m.body ≡ k.body
opened_agree ls q r m k are here there same =
    let a = line_of q ls m here in
    let b = line_of r ls k there in
    sym a.1.1.1 ∙ lines_agree ls a.0 b.0 are a.1.0 b.1.0 (a.1.1.0 ∙ same ∙ sym b.1.1.0) ∙ b.1.1.1

-- ---- every entry

published_is : (q id : ℕ) (queues body : List ℕ) (m : Message) → IsIn (cond (contains queues q) (record { id = id; body = body } ∷ []) []) m → (id ≡ m.id) × (body ≡ m.body)
published_is q id queues body m there = (elim (contains queues q) as (λ (b : Bool). IsIn (cond b (record { id = id; body = body } ∷ []) []) m → (id ≡ m.id) × (body ≡ m.body)) [
  | true ↦ λ there. ⊎_elim (λ here. (ap (λ (k : Message). k.id) here, ap (λ (k : Message). k.body) here)) (λ later. absurd later) there
  | false ↦ λ there. absurd there
]) there

new_agree : (past : List Entry) (e : Event) (q r : ℕ) (m k : Message) → Allowed past e → IsIn (adds q e) m → IsIn (adds r e) k → m.id ≡ k.id → m.body ≡ k.body
new_agree past (Opened lines) q r m k l here there same = opened_agree lines q r m k l.1 here there same
new_agree past (Published c n id queues body) q r m k l here there same = sym (published_is q id queues body m here).1 ∙ (published_is r id queues body k there).1
new_agree past _ q r m k l here there same = absurd here

new_is_fresh : {A : Type 0} (past : List Entry) (e : Event) (q r : ℕ) (m k : Message) → Allowed past e → IsIn (line past q) m → IsIn (adds r e) k → m.id ≡ k.id → A
new_is_fresh past (Opened lines) q r m k l old new same = absurd (subst (λ (p : List Entry). IsIn (line p q) m) l.0 old)
new_is_fresh past (Published c n id queues body) q r m k l old new same =
    let known = published_is r id queues body k new in
    clash (has_id (line past q) m.id) (subst (λ (x : ℕ). has_id (line past q) x ≡ false) (known.0 ∙ sym same) (line-unbrought past q id l.1)) (in_has (line past q) m old)
new_is_fresh past _ q r m k l old new same = absurd new

-- one id has one body, in whatever queues
pub line_agree : (past : List Entry) (q r : ℕ) (m k : Message) → Legal past → IsIn (line past q) m → IsIn (line past r) k → m.id ≡ k.id → m.body ≡ k.body
line_agree [] q r m k legal here there same = absurd here
line_agree (e ∷ past) q r m k legal here there same = ⊎_elim
    (λ m_old. ⊎_elim
    (λ k_old. line_agree past q r m k legal.3 m_old k_old same)
    (λ k_new. new_is_fresh past e.event q r m k legal.0 m_old k_new same) (in_append (line past r) (adds r e.event) k there))
    (λ m_new. ⊎_elim
    (λ k_old. new_is_fresh past e.event r q k m legal.0 k_old m_new (sym same))
    (λ k_new. new_agree past e.event q r m k legal.0 m_new k_new same) (in_append (line past r) (adds r e.event) k there)) (in_append (line past q) (adds q e.event) m here)

-- messages that survive a legal history are sound
pub survivors_sound : (past : List Entry) (lines : ℕ → List Message) → Legal past → Survives past lines → AreSound lines
survivors_sound past lines legal survives = record {
  once = λ q. (survives q).once;
  one_body = λ q r m k here there same. line_agree past q r m k legal
      (sublist_in (lines q) (line past q) m (survives q).sublist here)
      (sublist_in (lines r) (line past r) k (survives r).sublist there) same;
}
