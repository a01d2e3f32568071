-- An image holds one list of messages for each queue.
use Rattle.cq_folder.proofs.Names.{index_own, small_own}
use Rattle.cq_journal.specs.Lists.{IsIn, HasDistinctIds}
use Rattle.std.specs.List.{AllZip}
use Rattle.std.proofs.Common.{◌≡◌, ℕ, ◌+◌, ◌-◌, List, [], ◌∷◌, length, take, drop, refl, sym, ap, ◌∙◌, subst, ◌⊎◌, inl, inr, ⊎_elim, map, Option, Some, None}
use Rattle.std.proofs.Math.Logic.{∥∥₁_map}
use Rattle.cq_small.specs.Record.{StandsIn}
use Rattle.cq_small.specs.Store.{small_name}
use Rattle.cq_small.proofs.Records.{record_body}
use Rattle.cq_index.specs.Places.{index_name}
use Rattle.cq_journal.specs.declared.event.Message.{Message}
use Rattle.cq_folder.specs.Held.{Held}
use Rattle.cq_disk.specs.Call.{Image}
use Rattle.cq_entry.specs.declared.entry.EntryKind.{EntryKind}
use Rattle.cq_entry.specs.declared.entry.EntryKind.TheVariants.{Small, Shared as SharedEntry}
use Rattle.cq_journal.specs.History.{has_id}
use Rattle.cq_rdq.specs.Records.{shared_name}
use Rattle.cq_rdq.proofs.Chains.{bytes_one}
use Rattle.cq_folder.specs.Folder.{present, Spot, spots, below, IsMessageOf, HoldsIn, AreEntries, message_in, HasShelf, Folder, AreApart, IsShelved}
use Rattle.cq_folder.proofs.Sublists.{in_has, clash}
use Rattle.cq_folder.specs.Laws.{SoundHoldsOnce, AgreesIsSound, AgreesSurvives}
use Rattle.cq_folder.specs.Survives.{SurvivesIn}
use Rattle.cq_folder.proofs.Below.{below_same, below_both}
use Rattle.cq_folder.proofs.Entries.{entries_one}

-- the bodies of one length that stand at one place are one
pub same_body : (content : List ℕ) (place : ℕ) (a b : List ℕ) → StandsIn content place a → StandsIn content place b → length a ≡ length b → a ≡ b
same_body content place a b here there same =
    sym (record_body content (place - 128) a here.is) ∙ ap (λ n. take n (drop (place - 128 + 4) content)) same ∙ record_body content (place - 128) b there.is

-- one message of a list has an id
one_in : (ms : List Message) (m k : Message) → HasDistinctIds ms → IsIn ms m → IsIn ms k → m.id ≡ k.id → m ≡ k
one_in [] m k d here there same = absurd here
one_in (x ∷ ms) m k d here there same = ⊎_elim
    (λ (a : x ≡ m). ⊎_elim
    (λ (b : x ≡ k). sym a ∙ b)
    (λ b. clash (has_id ms x.id) d.0 (ap (has_id ms) (ap (λ (n : Message). n.id) a ∙ same) ∙ in_has ms k b)) there)
    (λ a. ⊎_elim
    (λ (b : x ≡ k). clash (has_id ms x.id) d.0 (ap (has_id ms) (ap (λ (n : Message). n.id) b ∙ sym same) ∙ in_has ms m a))
    (λ b. one_in ms m k d.1 a b same) there) here

-- one message has a record among those that are apart
shelved_one : (S : ℕ → List Message) (m k : Message) → AreApart S → IsShelved S m → IsShelved S k → m.id ≡ k.id → m ≡ k
shelved_one S m k apart here there same =
    let j : here.0 ≡ there.0 = apart.apart here.0 there.0 m.id (in_has (S here.0) m here.1) (ap (has_id (S there.0)) same ∙ in_has (S there.0) k there.1) in
    one_in (S there.0) m k (apart.once there.0) (subst (λ (i : ℕ). IsIn (S i) m) j here.1) there.1 same

module _ (F G : Folder) (q : ℕ) (index : (n : ℕ) → G.contents (index_name q n) ≡ F.contents (index_name q n)) (small : (n : ℕ) → G.contents (small_name q n) ≡ F.contents (small_name q n)) (shelves : (k : ℕ) → G.shelves k ≡ F.shelves k) (apart : AreApart F.shelves) where
  message_one : (s : Spot) (m k : Message) → IsMessageOf F q s m → IsMessageOf G q s k → m ≡ k
  message_one s m k a b = ⊎_elim
      (λ (is_small : s.entry.kind ≡ Small).
      let id : m.id ≡ k.id = a.id ∙ sym b.id in
      let body : m.body ≡ k.body = same_body (F.contents (small_name q s.segment)) s.entry.place m.body k.body (a.stands is_small) (subst (λ (c : List ℕ). StandsIn c s.entry.place k.body) (small s.segment) (b.stands is_small)) (a.len ∙ sym b.len) in
      λ i. record { id = id i; body = body i })
      (λ (is_shared : s.entry.kind ≡ SharedEntry).
      let there = b.shelved is_shared in
      shelved_one F.shelves m k apart (a.shelved is_shared) (there.0, subst (λ (l : List Message). IsIn l k) (shelves there.0) there.1) (a.id ∙ sym b.id))
      (either s.entry.kind)
    where
      either : (kind : EntryKind) → (kind ≡ Small) ⊎ (kind ≡ SharedEntry)
      either Small = inl refl
      either SharedEntry = inr refl

  zip_one : (ss : List Spot) (l r : List Message) → AllZip (IsMessageOf F q) ss l → AllZip (IsMessageOf G q) ss r → l ≡ r
  zip_one [] [] [] a b = refl
  zip_one [] [] (y ∷ r) a b = absurd b
  zip_one [] (x ∷ l) r a b = absurd a
  zip_one (s ∷ ss) [] r a b = absurd a
  zip_one (s ∷ ss) (x ∷ l) [] a b = absurd b
  zip_one (s ∷ ss) (x ∷ l) (y ∷ r) a b =
      let head = message_one s x y a.0 b.0 in
      let rest = zip_one ss l r a.1 b.1 in
      λ i. head i ∷ rest i

  -- two folders with the same contents and records hold one list
  pub holds_one : (l r : List Message) → HoldsIn F q l → HoldsIn G q r → l ≡ r
  holds_one l r a b =
      let f : ℕ → List Spot = λ n. spots n (present (a.seen n)) in
      let g : ℕ → List Spot = λ n. spots n (present (b.seen n)) in
      let one : (n : ℕ) → g n ≡ f n = λ n. ap (λ seen. spots n (present seen)) (entries_one (F.contents (index_name q n)) (b.seen n) (a.seen n) (subst (λ (c : List ℕ). AreEntries c (b.seen n)) (index n) (b.entries n)) (a.entries n)) in
      let all : below g b.most ≡ below f a.most = below_same g f b.most (λ n lt. one n) ∙ below_both f b.most a.most (λ n ge. sym (one n) ∙ ap (spots n) (b.none n ge)) (λ n ge. ap (spots n) (a.none n ge)) in
      zip_one (below f a.most) l r a.each (subst (λ (ss : List Spot). AllZip (IsMessageOf G q) ss r) all b.each)

-- a file has one list of records
pub shelf_one : (file : Option (List ℕ)) (a b : List Message) → HasShelf file a → HasShelf file b → a ≡ b
shelf_one None a b x y = x.messages ∙ ap (map message_in) (x.are ∙ sym y.are) ∙ sym y.messages
shelf_one (Some file) a b x y = x.messages ∙ ap (map message_in) (bytes_one file x.records y.records x.are y.are) ∙ sym y.messages

-- an image holds one list for each queue
pub held_one : (image : Image) (l r : ℕ → List Message) → Held image l → Held image r → (q : ℕ) → l q ≡ r q
held_one image l r a b q = holds_one a.folder b.folder q
    (λ n. sym ((b.shows.each (index_name q n)).content (index_own q n)) ∙ (a.shows.each (index_name q n)).content (index_own q n))
    (λ n. sym ((b.shows.each (small_name q n)).content (small_own q n)) ∙ (a.shows.each (small_name q n)).content (small_own q n))
    (λ k. shelf_one (image (shared_name k)) (b.folder.shelves k) (a.folder.shelves k) ((b.shows.each (shared_name k)).shelf k refl) ((a.shows.each (shared_name k)).shelf k refl))
    a.apart (l q) (r q) (a.holds q) (b.holds q)

pub sound_holds_once : SoundHoldsOnce
sound_holds_once image sound = record {
  some = ∥∥₁_map sound (λ s. (s.0, s.1.held));
  one = held_one image;
}

pub agrees_is_sound : AgreesIsSound
agrees_is_sound image past agrees = ∥∥₁_map agrees (λ a. (a.lines, a.sound))

pub agrees_survives : AgreesSurvives
agrees_survives image past lines agrees held = ∥∥₁_map agrees (λ a q. subst (SurvivesIn past q) (held_one image a.lines lines a.sound.held held q) (a.survives q))
