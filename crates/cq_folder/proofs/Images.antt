-- From what a crash leaves of one file to what it leaves of the folder.
use Rattle.cq_folder.specs.Holding.{MayReplace, Replaces}
use Rattle.std.proofs.Common.{◌≡◌, ◌≢◌, ◌⊎◌, inl, inr, ⊎_elim, ℕ, Bool, true, false, List, [], ◌∷◌, ◌++◌, Option, Some, None, refl, sym, ap, ◌∙◌, subst, arith}
use Rattle.std.specs.Prelude.{if◌then◌else◌}
use Rattle.std.specs.BTreeMap.{is_at}
use Rattle.cq_disk.specs.declared.name.Name.{Name}
use Rattle.cq_disk.specs.Names.{name_cmp}
use Rattle.cq_disk.specs.NamesLemmas.{found_is, found_self, distinct, apart}
use Rattle.cq_disk.specs.File.{File, IsFileImage, settled, fresh}
use Rattle.cq_disk.specs.FileLemmas.{settled_only}
use Rattle.cq_disk.specs.Files.{IsImageOf, IsImage, AmongBytes, OnFile, Creates, Removes}
use Rattle.cq_disk.specs.Call.{Image}
use Rattle.cq_gate.specs.Format.{kind_byte, content, IsGated}
use Rattle.cq_gate.specs.Gated.{KeepsOrAdds, From, Step}
use Rattle.std.specs.Prelude.{map}
use Rattle.std.proofs.lemmas.Bool.{eq-eqb, ne_eqb}
use Rattle.cq_disk.specs.declared.name.Kind.TheVariants.{Shared}
use Rattle.cq_entry.specs.declared.entry.EntryKind.{EntryKind}
use Rattle.cq_journal.specs.declared.event.Message.{Message}
use Rattle.cq_rdq.specs.Records.{shared_name, HasRecords, KeepsOrShelves, Shelves}
use Rattle.cq_rdq.proofs.Chains.{none_of}
use Rattle.cq_folder.specs.Held.{bytes_in, as_read, content_of, IsFormedAs, IsShown, Shows, Still}
use Rattle.cq_folder.specs.Folder.{message_in, HasShelf, Folder, Grows, grown, shelf_in, shelf_joined, Sharing, sharing_of}

-- what holds of one name and of every other holds of all
pub at_name : (P : Name → Type 0) (name : Name) → P name → ((n : Name) → n ≢ name → P n) → (n : Name) → P n
at_name P name here others n = (elim (is_at (name_cmp name) n) as (λ (b : Bool). is_at (name_cmp name) n ≡ b → P n) [
  | true ↦ λ same. subst P (sym (found_is name n same)) here
  | false ↦ λ other. others n (distinct name n other)
]) refl

pub grown_grows : (folder : Folder) (name : Name) (bytes : List ℕ) → Grows name bytes folder (grown folder name bytes)
grown_grows folder name bytes = record {
  this = ap (λ (b : Bool). if b then folder.contents name ++ bytes else folder.contents name) (found_self name name refl);
  others = λ n other. ap (λ (b : Bool). if b then folder.contents n ++ bytes else folder.contents n) (apart name n other);
  shelves = refl;
  kinds = refl;
}

-- ---- what a file shows

-- an index or a small store
pub own_shown : (F : Folder) (name : Name) (file : Option (List ℕ)) → name.kind ≢ Shared → IsFormedAs name file → content_of file ≡ F.contents name → IsShown F name file
own_shown F name file own formed is = record { formed = formed; content = λ o. is; shelf = λ k e. absurd (own (ap (λ (n : Name). n.kind) e)) }

-- a shared file
pub shared_shown : (F : Folder) (k : ℕ) (file : Option (List ℕ)) → IsFormedAs (shared_name k) file → HasShelf file (F.shelves k) → IsShown F (shared_name k) file
shared_shown F k file formed has = record { formed = formed; content = λ own. absurd (own refl); shelf = λ j e. subst (λ (i : ℕ). HasShelf file (F.shelves i)) (ap (λ (n : Name). n.number) e) has }

-- the same file, where the folder says the same of it
pub same_shown : (F G : Folder) (n : Name) (file : Option (List ℕ)) → (n.kind ≢ Shared → G.contents n ≡ F.contents n) → ((k : ℕ) → n ≡ shared_name k → G.shelves k ≡ F.shelves k) → IsShown F n file → IsShown G n file
same_shown F G n file contents shelves was = record {
  formed = was.formed;
  content = λ own. was.content own ∙ sym (contents own);
  shelf = λ k e. subst (HasShelf file) (sym (shelves k e)) (was.shelf k e);
}

pub at_shelf : (F : Folder) (k : ℕ) (ms : List Message) → (shelf_in F k ms).shelves k ≡ ms
at_shelf F k ms = ap (λ (b : Bool). if b then ms else F.shelves k) (eq-eqb k k refl)

pub off_shelf : (F : Folder) (k : ℕ) (ms : List Message) (j : ℕ) → j ≢ k → (shelf_in F k ms).shelves j ≡ F.shelves j
off_shelf F k ms j other = ap (λ (b : Bool). if b then ms else F.shelves j) (ne_eqb j k other)

-- another file than the shared one whose records change
pub other_shown : (F : Folder) (k : ℕ) (ms : List Message) (n : Name) (file : Option (List ℕ)) → n ≢ shared_name k → IsShown F n file → IsShown (shelf_in F k ms) n file
other_shown F k ms n file other = same_shown F (shelf_in F k ms) n file (λ own. refl) (λ j e. off_shelf F k ms j (λ same. other (e ∙ ap shared_name same)))

-- an empty file is as one that isn't there
empty_shelf : (ms : List Message) → HasShelf None ms → HasShelf (Some []) ms
empty_shelf ms has = record { records = has.records; are = subst (HasRecords []) (sym has.are) (none_of [] refl refl); messages = has.messages }

empty_shown : (F : Folder) (n : Name) → IsShown F n None → IsShown F n (Some [])
empty_shown F n was = record { formed = λ long. absurd (omega (arith, long)); content = was.content; shelf = λ k e. empty_shelf (F.shelves k) (was.shelf k e) }

-- of a file that is all on the disk a crash leaves what it reads
pub settled_slot : (bytes : List ℕ) (c : Option (List ℕ)) → IsImageOf (Some (settled bytes)) c → c ≡ Some bytes
settled_slot bytes None none = absurd none
settled_slot bytes (Some b) image = ap Some (settled_only bytes b image)

-- what files read is one of their images
read_slot : (slot : Option File) → ((f : File) → slot ≡ Some f → IsFileImage f f.reads) → IsImageOf slot (bytes_in slot)
read_slot None readable = tt
read_slot (Some f) readable = readable f refl

pub reads_image : (files : Name → Option File) → ((n : Name) (f : File) → files n ≡ Some f → IsFileImage f f.reads) → IsImage files (as_read files)
reads_image files readable n = read_slot (files n) (readable n)

-- every image that a crash may leave now shows the folder
pub still_image : (files : Name → Option File) (F : Folder) → Still files F → (image : Image) → IsImage files image → Shows image F
still_image files F still image is = record { each = λ n. still.each n (image n) (is n) }

-- what a file reads shows the folder
pub still_reads : (files : Name → Option File) (F : Folder) (name : Name) (f : File) → Still files F → files name ≡ Some f → IsFileImage f f.reads → IsShown F name (Some f.reads)
still_reads files F name f still is readable = still.each name (Some f.reads) (subst (λ (o : Option File). IsImageOf o (Some f.reads)) (sym is) readable)

-- ---- bytes join the content of an index or of a small store

module _ (files : Name → Option File) (F : Folder) (still : Still files F) (name : Name) (own : name.kind ≢ Shared) (bytes : List ℕ) where
  abbrev G : Folder
  G = grown F name bytes

  grows : Grows name bytes F G
  grows = grown_grows F name bytes

  pub other_grown : (n : Name) (file : Option (List ℕ)) → n ≢ name → IsShown F n file → IsShown G n file
  other_grown n file other = same_shown F G n file (λ o. grows.others n other) (λ k e. refl)

  of_bytes : (slot : Option (List ℕ)) (file : Option File) → files name ≡ file → AmongBytes slot (From file (KeepsOrAdds (kind_byte name.kind) bytes)) → IsShown F name slot ⊎ IsShown G name slot
  of_bytes None file is none = absurd none
  of_bytes (Some b) None is none = absurd none
  of_bytes (Some b) (Some f) is has =
      let known : content has.before ≡ F.contents name = (still.each name (Some has.before) (subst (λ (o : Option File). IsImageOf o (Some has.before)) (sym is) has.image)).content own in
      ⊎_elim
      (λ was. inl (own_shown F name (Some b) own has.gated (was ∙ known)))
      (λ new. inr (own_shown G name (Some b) own has.gated (new ∙ ap (λ (l : List ℕ). l ++ bytes) known ∙ sym grows.this)))
      has.same

  -- an append leaves the folder as it was, or with the bytes
  pub append_leaves : (image : Image) → OnFile name files (From (files name) (KeepsOrAdds (kind_byte name.kind) bytes)) image → Shows image F ⊎ Shows image G
  append_leaves image on =
      let others : (n : Name) → n ≢ name → IsShown F n (image n) = λ n other. still.each n (image n) (on.others n other) in
      ⊎_elim
      (λ was. inl (record { each = at_name (λ n. IsShown F n (image n)) name was others }))
      (λ new. inr (record { each = at_name (λ n. IsShown G n (image n)) name new (λ n other. other_grown n (image n) other (others n other)) }))
      (of_bytes (image name) (files name) refl on.this)

-- a file that is all on the disk and has got these bytes
module _ (old new : Name → Option File) (F : Folder) (name : Name) (own : name.kind ≢ Shared) (bytes : List ℕ) (still : Still old F) (readable : (f : File) → old name ≡ Some f → IsFileImage f f.reads) (others : (n : Name) → n ≢ name → new n ≡ old n) where
  -- once it has answered, the folder has the bytes
  pub added_still : (f g : File) → old name ≡ Some f → new name ≡ Some g → IsGated (kind_byte name.kind) g.reads → content g.reads ≡ content f.reads ++ bytes → g ≡ settled g.reads → Still new (grown F name bytes)
  added_still f g was now gated more all =
      let grows : Grows name bytes F (grown F name bytes) = grown_grows F name bytes in
      let is : content g.reads ≡ (grown F name bytes).contents name = more ∙ ap (λ (l : List ℕ). l ++ bytes) ((still_reads old F name f still was (readable f was)).content own) ∙ sym grows.this in
      record {
        each = at_name (λ n. (c : Option (List ℕ)) → IsImageOf (new n) c → IsShown (grown F name bytes) n c) name
            (λ c image. subst (IsShown (grown F name bytes) name) (sym (settled_slot g.reads c (subst (λ (o : Option File). IsImageOf o c) (now ∙ ap (λ (h : File). Some h) all) image))) (own_shown (grown F name bytes) name (Some g.reads) own gated is))
            (λ n other c image. other_grown old F still name own bytes n c other (still.each n c (subst (λ (o : Option File). IsImageOf o c) (others n other) image)));
      }

-- ---- records join a shared file

map_more : {A B : Type 0} (f : A → B) (xs ys : List A) → map f (xs ++ ys) ≡ map f xs ++ map f ys
map_more f [] ys = refl
map_more f (x ∷ xs) ys = ap (λ l. f x ∷ l) (map_more f xs ys)

shelf_more : (c : List ℕ) (ms : List Message) (rs records : List (List ℕ)) → ms ≡ map message_in rs → HasRecords c (rs ++ records) → HasShelf (Some c) (ms ++ map message_in records)
shelf_more c ms rs records are has = record { records = rs ++ records; are = has; messages = ap (λ l. l ++ map message_in records) are ∙ sym (map_more message_in rs records) }

module _ (files : Name → Option File) (F : Folder) (still : Still files F) (k : ℕ) (records : List (List ℕ)) where
  abbrev H : Folder
  H = shelf_joined F k (map message_in records)

  at_k : H.shelves k ≡ F.shelves k ++ map message_in records
  at_k = at_shelf F k (F.shelves k ++ map message_in records)

  pub other_with : (n : Name) (file : Option (List ℕ)) → n ≢ shared_name k → IsShown F n file → IsShown H n file
  other_with n file = other_shown F k (F.shelves k ++ map message_in records) n file

  pub with_shown : (c : List ℕ) → IsFormedAs (shared_name k) (Some c) → HasShelf (Some c) (F.shelves k ++ map message_in records) → IsShown H (shared_name k) (Some c)
  with_shown c formed has = shared_shown H k (Some c) formed (subst (HasShelf (Some c)) (sym at_k) has)

  of_records : (slot : Option (List ℕ)) (file : Option File) → files (shared_name k) ≡ file → AmongBytes slot (From file (KeepsOrShelves records)) → IsShown F (shared_name k) slot ⊎ IsShown H (shared_name k) slot
  of_records None file is none = absurd none
  of_records (Some b) None is none = absurd none
  of_records (Some b) (Some f) is has =
      let known : HasShelf (Some has.before) (F.shelves k) = (still.each (shared_name k) (Some has.before) (subst (λ (o : Option File). IsImageOf o (Some has.before)) (sym is) has.image)).shelf k refl in
      ⊎_elim
      (λ was. inl (shared_shown F k (Some b) has.gated (record { records = known.records; are = was; messages = known.messages })))
      (λ new. inr (with_shown b has.gated (shelf_more b (F.shelves k) known.records records known.messages new)))
      (has.records known.records known.are)

  -- an addition leaves the folder as it was, or with the records
  pub shelve_leaves : (image : Image) → OnFile (shared_name k) files (From (files (shared_name k)) (KeepsOrShelves records)) image → Shows image F ⊎ Shows image H
  shelve_leaves image on =
      let others : (n : Name) → n ≢ shared_name k → IsShown F n (image n) = λ n other. still.each n (image n) (on.others n other) in
      ⊎_elim
      (λ was. inl (record { each = at_name (λ n. IsShown F n (image n)) (shared_name k) was others }))
      (λ new. inr (record { each = at_name (λ n. IsShown H n (image n)) (shared_name k) new (λ n other. other_with n (image n) other (others n other)) }))
      (of_records (image (shared_name k)) (files (shared_name k)) refl on.this)

module _ (old new : Name → Option File) (F : Folder) (k : ℕ) (records : List (List ℕ)) (still : Still old F) (readable : (f : File) → old (shared_name k) ≡ Some f → IsFileImage f f.reads) (others : (n : Name) → n ≢ shared_name k → new n ≡ old n) where
  -- once it has answered, the folder has the records
  pub shelved_still : (f g : File) → old (shared_name k) ≡ Some f → new (shared_name k) ≡ Some g → Shelves records f g → Still new (shelf_joined F k (map message_in records))
  shelved_still f g was now has =
      let known : HasShelf (Some f.reads) (F.shelves k) = (still_reads old F (shared_name k) f still was (readable f was)).shelf k refl in
      record {
        each = at_name (λ n. (c : Option (List ℕ)) → IsImageOf (new n) c → IsShown (shelf_joined F k (map message_in records)) n c) (shared_name k)
            (λ c image. subst (IsShown (shelf_joined F k (map message_in records)) (shared_name k)) (sym (settled_slot g.reads c (subst (λ (o : Option File). IsImageOf o c) (now ∙ ap (λ (h : File). Some h) has.all) image)))
            (with_shown old F still k records g.reads has.gated (shelf_more g.reads (F.shelves k) known.records records known.messages (has.records known.records known.are))))
            (λ n other c image. other_with old F still k records n c other (still.each n c (subst (λ (o : Option File). IsImageOf o c) (others n other) image)));
      }

-- ---- a shared file has other records

-- whatever a crash leaves now of this file has these records; each other file is as it was
pub replaced_still : (old new : Name → Option File) (F : Folder) (k : ℕ) (ms : List Message) → Still old F → ((c : Option (List ℕ)) → IsImageOf (new (shared_name k)) c → IsFormedAs (shared_name k) c × HasShelf c ms) → ((n : Name) → n ≢ shared_name k → new n ≡ old n) → Still new (shelf_in F k ms)
replaced_still old new F k ms still this others = record {
  each = at_name (λ n. (c : Option (List ℕ)) → IsImageOf (new n) c → IsShown (shelf_in F k ms) n c) (shared_name k)
      (λ c image. shared_shown (shelf_in F k ms) k c (this c image).0 (subst (HasShelf c) (sym (at_shelf F k ms)) (this c image).1))
      (λ n other c image. other_shown F k ms n c other (still.each n c (subst (λ (o : Option File). IsImageOf o c) (others n other) image)));
}

-- the same of one image
pub replaced_shows : (image image' : Image) (F : Folder) (k : ℕ) (ms : List Message) → Shows image F → IsFormedAs (shared_name k) (image' (shared_name k)) → HasShelf (image' (shared_name k)) ms → ((n : Name) → n ≢ shared_name k → image' n ≡ image n) → Shows image' (shelf_in F k ms)
replaced_shows image image' F k ms shows formed has others = record {
  each = at_name (λ n. IsShown (shelf_in F k ms) n (image' n)) (shared_name k)
      (shared_shown (shelf_in F k ms) k (image' (shared_name k)) formed (subst (HasShelf (image' (shared_name k))) (sym (at_shelf F k ms)) has))
      (λ n other. other_shown F k ms n (image' n) other (subst (IsShown F n) (sym (others n other)) (shows.each n)));
}

-- a file that isn't there has no record
pub none_shelf : HasShelf None []
none_shelf = record { records = []; are = refl; messages = refl }

-- while a shared file is replaced, the folder is as it was, or has the other records
pub replace_leaves : (files : Name → Option File) (F : Folder) (lines : ℕ → List Message) (k : ℕ) → Still files F → (image : Image) → Replaces (sharing_of F) lines k files image
    → Shows image F ⊎ ((ms : List Message) × (MayReplace (sharing_of F) lines k ms × Shows image (shelf_in F k ms)))
replace_leaves files F lines k still image is = ⊎_elim
    (λ there. inl (record { each = at_name (λ n. IsShown F n (image n)) (shared_name k) (still.each (shared_name k) (image (shared_name k)) there) (λ n other. still.each n (image n) (is.others n other)) }))
    (λ other. inr (
      other.messages,
      (
        other.may,
        record {
          each = at_name (λ n. IsShown (shelf_in F k other.messages) n (image n)) (shared_name k)
              (shared_shown (shelf_in F k other.messages) k (image (shared_name k)) other.formed (subst (HasShelf (image (shared_name k))) (sym (at_shelf F k other.messages)) other.has))
              (λ n off. other_shown F k other.messages n (image n) off (still.each n (image n) (is.others n off)));
        },
      ),
    ))
    is.this

-- a removal is such a replacement, by no records
pub removal_replaces : (files : Name → Option File) (sharing : Sharing) (lines : ℕ → List Message) (k : ℕ) (image : Image) → MayReplace sharing lines k [] → Removes (shared_name k) files image → Replaces sharing lines k files image
removal_replaces files sharing lines k image may is = record {
  this = ⊎_elim
      (λ gone. inr (record { messages = []; formed = subst (IsFormedAs (shared_name k)) (sym gone) tt; has = subst (λ (c : Option (List ℕ)). HasShelf c []) (sym gone) none_shelf; may = may }))
      (λ there. inl there) is.this;
  others = is.others;
}

-- what a step says, in part
pub step_part : (before after : Option File) (P Q : File → File → Type 0) → ((f g : File) → P f g → Q f g) → Step before after P → Step before after Q
step_part None after P Q part none = absurd none
step_part (Some f) None P Q part none = absurd none
step_part (Some f) (Some g) P Q part step = part f g step

-- what a step says, together with another
pub step_both : (before after : Option File) (P Q R : File → File → Type 0) → ((f g : File) → after ≡ Some g → P f g → Q f g → R f g) → Step before after P → Step before after Q → Step before after R
step_both None after P Q R both none other = absurd none
step_both (Some f) None P Q R both none other = absurd none
step_both (Some f) (Some g) P Q R both step other = both f g refl step other

-- ---- a file is made

fresh_shown : (F : Folder) (name : Name) (c : Option (List ℕ)) → IsShown F name None → (c ≡ None) ⊎ (c ≡ Some []) → IsShown F name c
fresh_shown F name c was either = ⊎_elim
    (λ none. subst (IsShown F name) (sym none) was)
    (λ empty. subst (IsShown F name) (sym empty) (empty_shown F name was)) either

module _ (files : Name → Option File) (F : Folder) (still : Still files F) (name : Name) (absent : files name ≡ None) where
  without : IsShown F name None
  without = still.each name None (subst (λ (o : Option File). IsImageOf o None) (sym absent) tt)

  -- while a file is made, the folder stays
  pub create_leaves : (image : Image) → Creates name files image → Shows image F
  create_leaves image made = record {
    each = at_name (λ n. IsShown F n (image n)) name (fresh_shown F name (image name) without made.this) (λ n other. still.each n (image n) (made.others n other));
  }

  fresh_left : (slot : Option File) (c : Option (List ℕ)) → slot ≡ Some fresh → IsImageOf slot c → c ≡ Some []
  fresh_left slot None is image = absurd (subst (λ (o : Option File). IsImageOf o None) is image)
  fresh_left slot (Some b) is image = ap Some (settled_only [] b (subst (λ (o : Option File). IsImageOf o (Some b)) is image))

  -- and once it is made, or wasn't
  pub made_still : (new : Name → Option File) → (new name ≡ Some fresh) ⊎ (new name ≡ files name) → ((n : Name) → n ≢ name → new n ≡ files n) → Still new F
  made_still new this others = record {
    each = at_name (λ n. (c : Option (List ℕ)) → IsImageOf (new n) c → IsShown F n c) name
        (λ c image. ⊎_elim
        (λ made. fresh_shown F name c without (inr (fresh_left (new name) c made image)))
        (λ as_was. still.each name c (subst (λ (o : Option File). IsImageOf o c) as_was image)) this)
        (λ n other c image. still.each n c (subst (λ (o : Option File). IsImageOf o c) (others n other) image));
  }

-- files that are as they were
pub same_still : (old new : Name → Option File) (F : Folder) → ((n : Name) → new n ≡ old n) → Still old F → Still new F
same_still old new F same still = record { each = λ n c image. still.each n c (subst (λ (o : Option File). IsImageOf o c) (same n) image) }

-- ---- a folder with no files

no_file : (c : Option (List ℕ)) → IsImageOf None c → c ≡ None
no_file None image = refl
no_file (Some b) image = absurd image

-- a folder that holds nothing
abbrev pub no_folder : (Message → EntryKind) → Folder
no_folder kinds = record { contents = λ n. []; shelves = λ k. []; kinds = kinds }

pub none_shown : (kinds : Message → EntryKind) (n : Name) → IsShown (no_folder kinds) n None
none_shown kinds n = record { formed = tt; content = λ own. refl; shelf = λ k e. none_shelf }

pub bare_still : (kinds : Message → EntryKind) (files : Name → Option File) → ((n : Name) → files n ≡ None) → Still files (no_folder kinds)
bare_still kinds files none = record { each = λ n c image. subst (IsShown (no_folder kinds) n) (sym (no_file c (subst (λ (o : Option File). IsImageOf o c) (none n) image))) (none_shown kinds n) }
