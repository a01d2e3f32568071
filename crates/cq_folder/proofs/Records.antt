-- What shared files have of the messages that are held.
use Rattle.std.proofs.Common.{◌≡◌, ℕ, true, List, refl, sym, subst}
use Rattle.cq_disk.specs.Call.{Image}
use Rattle.cq_journal.specs.declared.event.Message.{Message}
use Rattle.cq_journal.specs.History.{has_id}
use Rattle.cq_journal.specs.Lists.{HasDistinctIds}
use Rattle.cq_rdq.specs.Records.{shared_name}
use Rattle.cq_folder.specs.Folder.{HasShelf}
use Rattle.cq_folder.specs.Held.{Held}
use Rattle.cq_folder.specs.Laws.{HasRecordsOnce, HeldHaveRecords}
use Rattle.cq_folder.proofs.Members.{entries_are_held}
use Rattle.cq_folder.proofs.One.{shelf_one}

module _ (image : Image) (lines : ℕ → List Message) (h : Held image lines) where
  own : (k : ℕ) → HasShelf (image (shared_name k)) (h.folder.shelves k)
  own k = (h.shows.each (shared_name k)).shelf k refl

  one : (k : ℕ) (ms : List Message) → HasShelf (image (shared_name k)) ms → ms ≡ h.folder.shelves k
  one k ms has = shelf_one (image (shared_name k)) ms (h.folder.shelves k) has (own k)

  has_in : (k : ℕ) (ms : List Message) (x : ℕ) → HasShelf (image (shared_name k)) ms → has_id ms x ≡ true → has_id (h.folder.shelves k) x ≡ true
  has_in k ms x has there = subst (λ (l : List Message). has_id l x ≡ true) (one k ms has) there

  pub records_once : HasRecordsOnce image
  records_once = record {
    there = λ q n seen e are is shared.
        let m = entries_are_held image lines q n seen e h are is in
        let shelf = m.1.1.shelved shared in
        record { file = shelf.0; messages = h.folder.shelves shelf.0; shelf = own shelf.0; message = m.0; there = shelf.1; id = m.1.1.id; len = m.1.1.len };
    once = λ k ms has. subst HasDistinctIds (sym (one k ms has)) (h.apart.once k);
    apart = λ j k a b x has_a has_b in_a in_b. h.apart.apart j k x (has_in j a x has_a in_a) (has_in k b x has_b in_b);
  }

pub held_have_records : HeldHaveRecords
held_have_records image lines h = records_once image lines h
