-- What each step of a node keeps of all its queues.
use Rattle.std.proofs.Common.{◌≡◌, ⊎_elim, ℕ, Bool, true, false, cond, List, [], ◌∷◌, ◌++◌, Option, refl, sym, ap, ◌∙◌, subst}
use Rattle.std.specs.Prelude.{◌==◌}
use Rattle.std.proofs.lemmas.Bool.{false≢true, cases_Bool, or_left, eq-eqb, eqb-true, both_ways}
use Rattle.cq_bytes.specs.Numbers.{contains}
use Rattle.cq_disk.specs.declared.name.Name.{Name}
use Rattle.cq_entry.specs.declared.entry.EntryKind.{EntryKind}
use Rattle.cq_disk.specs.File.{File}
use Rattle.cq_journal.specs.declared.event.Event.{Event}
use Rattle.cq_journal.specs.declared.event.Event.TheVariants.{Opened, Dropped, Confirmed, Settled}
use Rattle.cq_journal.specs.declared.event.Entry.{Entry}
use Rattle.cq_journal.specs.declared.event.Message.{Message}
use Rattle.cq_journal.specs.History.{adds, settles}
use Rattle.cq_journal.specs.Legal.{Legal}
use Rattle.cq_journal.proofs.More.{eqb-sym}
use Rattle.cq_folder.specs.Folder.{Sharing}
use Rattle.cq_folder.specs.Standing.{IsQuiet}
use Rattle.cq_folder.specs.Holding.{left_out}
use Rattle.cq_folder.specs.HeldLaws.{settle_all}
use Rattle.cq_folder.proofs.Kept.{keeps_standing}
use Rattle.cq_items.specs.Item.{Item}
use Rattle.cq_items.specs.Items.{new_item, others_items, settling_ids, undecided_items}
use Rattle.cq_queue_laws.specs.Laws.{items_after}
use Rattle.cq_queue.specs.Passing.{Suits, commit_items}
use Rattle.cq_stored.specs.Stored.{coming}
use Rattle.cq_stored.specs.InStep.{IsInStep, publish_at, skipped_of}
use Rattle.cq_stored.specs.Queues.{AreInStep, ChangesAt, QueuesLaws}
use Rattle.cq_stored.proofs.InStep.{in_step_laws, passing_laws}
use Rattle.cq_stored.proofs.Stands.{commit_stands, settled_stands, remove_stands}

-- one queue and every other
pub at_each : (P : ℕ → List Item → List Message → Type 0) (q : ℕ) (now : List Item) (old new : ℕ → List Item) (f : List Message → List Message) (lines : ℕ → List Message) → ChangesAt q now old new
    → P q now (f (lines q)) → ((r : ℕ) → (q == r) ≡ false → P r (old r) (lines r)) → (r : ℕ) → P r (new r) (cond (r == q) (f (lines r)) (lines r))
at_each P q now old new f lines changes here there r = ⊎_elim
    (λ same.
    subst (λ (k : ℕ). P k (new k) (cond (k == q) (f (lines k)) (lines k))) (sym (eqb-true r q same))
    (subst (λ (b : Bool). P q (new q) (cond b (f (lines q)) (lines q))) (sym (eq-eqb q q refl)) (subst (λ (is : List Item). P q is (f (lines q))) (sym changes.this) here)))
    (λ other.
    subst (λ (b : Bool). P r (new r) (cond b (f (lines r)) (lines r))) (sym other)
    (subst (λ (is : List Item). P r is (lines r)) (sym (changes.others r (λ e. both_ways _ other (eq-eqb r q e)))) (there r (eqb-sym q r ∙ other))))
    (cases_Bool (r == q))

-- a publish keeps each queue in step
pub published_each : (kinds : Message → EntryKind) (old new : ℕ → List Item) (past : List Entry) (lines : ℕ → List Message) (stamp client number : ℕ) (queues : List ℕ) (m : Message) (body : Option (List ℕ)) (len : ℕ)
    → Legal (publish_at stamp client number queues m ∷ past) → Suits kinds (new_item m.id body len) m → ((r : ℕ) → IsInStep kinds (old r) past r (lines r))
    → ((r : ℕ) → new r ≡ cond (contains queues r) (old r ++ new_item m.id body len ∷ []) (old r))
    → (r : ℕ) → IsInStep kinds (new r) (publish_at stamp client number queues m ∷ past) r (lines r)
published_each kinds old new past lines stamp client number queues m body len legal suits s changes r =
    let e : Entry = publish_at stamp client number queues m in
    subst (λ (is : List Item). IsInStep kinds is (e ∷ past) r (lines r)) (sym (changes r)) (⊎_elim
    (λ there. subst (λ (b : Bool). IsInStep kinds (cond b (old r ++ new_item m.id body len ∷ []) (old r)) (e ∷ past) r (lines r)) (sym there)
    (in_step_laws.published kinds (old r) past r (lines r) stamp client number queues m body len legal there suits (s r)))
    (λ other. subst (λ (b : Bool). IsInStep kinds (cond b (old r ++ new_item m.id body len ∷ []) (old r)) (e ∷ past) r (lines r)) (sym other)
    (in_step_laws.quiet kinds (old r) past e r (lines r) legal (ap (λ (b : Bool). cond b (m ∷ []) []) other) (λ x none. absurd (false≢true none)) (s r)))
    (cases_Bool (contains queues r)))

first_is : (id : ℕ) (ids : List ℕ) → contains (id ∷ ids) id ≡ true
first_is id ids = or_left (id == id) (contains ids id) (eq-eqb id id refl)

-- what is quiet settles nothing
nothing_settled : (e : Event) (r : ℕ) → IsQuiet e → (x : ℕ) → contains (settles r e) x ≡ true → ⊥
nothing_settled (Opened lines) r is_quiet x has = is_quiet
nothing_settled (Confirmed client number id) r is_quiet x has = is_quiet
nothing_settled (Settled queue id) r is_quiet x has = is_quiet
nothing_settled _ r is_quiet x has = false≢true has

-- and so does an entry that brings no message, confirms nothing and settles nothing
pub quiet_each : (kinds : Message → EntryKind) (old new : ℕ → List Item) (past : List Entry) (e : Entry) (lines : ℕ → List Message) → Legal (e ∷ past) → IsQuiet e.event
    → ((r : ℕ) → adds r e.event ≡ []) → ((r : ℕ) → IsInStep kinds (old r) past r (lines r)) → ((r : ℕ) → new r ≡ items_after e.event r (old r))
    → (r : ℕ) → IsInStep kinds (new r) (e ∷ past) r (lines r)
quiet_each kinds old new past e lines legal is_quiet none s changes r =
    subst (λ (is : List Item). IsInStep kinds is (e ∷ past) r (lines r)) (sym (changes r))
    (in_step_laws.quiet kinds (old r) past e r (lines r) legal (none r) (λ x has. absurd (nothing_settled e.event r is_quiet x has)) (s r))

pub queues_laws : QueuesLaws
queues_laws = record {
  committed = λ files now sharing old new past lines q skip room segment at place stamp legal s comes changes.
      let ids : List ℕ = skipped_of skip room (undecided_items (old q)) in
      let ms : List Message = coming skip room (old q) past q in
      let own = s.in_step q in
      record {
        standing = commit_stands files now sharing past lines legal s.standing (old q) q skip room own.split own.bodies own.stored comes;
        in_step = at_each (λ r is held. IsInStep sharing.kinds is (settle_all stamp q ids past) r held) q (commit_items skip room segment at place (old q)) old new (λ l. l ++ ms) lines changes
            (in_step_laws.committed sharing.kinds (old q) past q (lines q) skip room segment at place stamp legal own)
            (λ r other. in_step_laws.elsewhere sharing.kinds (old r) past q r (lines r) stamp ids other (s.in_step r));
      };
  confirmed = λ files sharing items past lines q stamp now ids p legal s decided gone. record {
    standing = keeps_standing.confirmed files sharing past lines now p (λ r there waits. passing_laws.safe sharing.kinds (items r) past q r (lines r) stamp p.id ids legal (s.in_step r) gone (decided r) there waits) s.standing;
    in_step = λ r. passing_laws.confirmed sharing.kinds (items r) past q r (lines r) stamp now p.client p.number p.id ids (s.in_step r);
  };
  dropped = λ files sharing old new past lines q stamp now client number ids legal s changes.
      let e : Entry = record { event = Dropped client number; stamp = now } in
      record {
        standing = keeps_standing.quiet files sharing past lines e legal tt s.standing;
        in_step = λ r. subst (λ (is : List Item). IsInStep sharing.kinds is (settle_all stamp q ids (e ∷ past)) r (lines r)) (sym (changes r))
            (passing_laws.dropped sharing.kinds (old r) past q r (lines r) stamp now client number ids legal.3 (s.in_step r));
      };
  skipped = λ files sharing items past lines q stamp id ids s. record {
    standing = keeps_standing.settled files sharing past lines stamp q id (passing_laws.lacks sharing.kinds (items q) past q (lines q) stamp id (id ∷ ids) (s.in_step q) (first_is id ids)) s.standing;
    in_step = s.in_step;
  };
  settled = λ files now sharing old new past lines q stamp legal s loses changes.
      let ids : List ℕ = settling_ids (old q) in
      let own = s.in_step q in
      record {
        standing = settled_stands files now sharing past lines legal s.standing (old q) q stamp own.follows loses;
        in_step = at_each (λ r is held. IsInStep sharing.kinds is (settle_all stamp q ids past) r held) q (others_items (old q)) old new (left_out ids) lines changes
            (in_step_laws.settled sharing.kinds (old q) past q (lines q) stamp legal own)
            (λ r other. in_step_laws.elsewhere sharing.kinds (old r) past q r (lines r) stamp ids other (s.in_step r));
      };
  removed = λ files now sharing items past lines legal s stays. record { standing = remove_stands files now sharing past lines legal s.standing stays; in_step = s.in_step };
  published = λ files sharing old new past lines stamp client number queues m body len legal suits s changes. record {
    standing = keeps_standing.quiet files sharing past lines (publish_at stamp client number queues m) legal tt s.standing;
    in_step = published_each sharing.kinds old new past lines stamp client number queues m body len legal suits s.in_step changes;
  };
  quiet = λ files sharing old new past e lines legal is_quiet none s changes. record {
    standing = keeps_standing.quiet files sharing past lines e legal is_quiet s.standing;
    in_step = quiet_each sharing.kinds old new past e lines legal is_quiet none s.in_step changes;
  };
}
