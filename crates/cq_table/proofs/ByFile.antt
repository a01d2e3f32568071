-- The records of files as parts of all records.
use Rattle.std.proofs.Common.{◌≡◌, ℕ, ◌+◌, ◌≤◌, Bool, true, false, cond, List, [], ◌∷◌, map, length, Option, None, Some, IsSome, is_some, unwrap_or, refl, sym, ap, ◌∙◌, nat_eq, arith}
use Rattle.std.specs.Option.{option_map_or}
use Rattle.std.specs.Ordering.{nat_cmp}
use Rattle.std.proofs.lemmas.Bool.Decides.{nat_tests}
use Rattle.std.specs.FinMap.{FinMap, nat_cmp-IsAntisymmetric, empty, insert, remove, get, entries, get-empty, get-retain_keys, len-entries, len-empty, empty_of_len}
use Rattle.cq_map.specs.Totals.{sum_of, total}
use Rattle.cq_map.proofs.Seen.{turned}
use Rattle.cq_map.proofs.Totals.{itself, equal, get_put, get_without, alike, remove_absent, insert_removed, remove_inserted, get_removed, get_inserted, total-insert, total-remove}
use Rattle.cq_table.specs.declared.Place.{Place}
use Rattle.cq_table.specs.Located.{IsByFile}
use Rattle.cq_table.specs.Records.{Places, block_of, blocks_of, whole_len, len_at, stands_in, in_file, live_bytes, records_at, ChangesFile}

-- one record of a file by its id
pub get_in : (m : Places) (f q : ℕ) → get (in_file m f) q ≡ cond (stands_in m f q) (get m q) None
get_in m f q = get-retain_keys m (stands_in m f) q (λ x tied. ap (stands_in m f) (sym (nat_cmp-IsAntisymmetric q x tied)))

-- what a record put or replaced adds
pub total_put : (m : Places) (id : ℕ) (p : Place) → total whole_len (insert m id p) + len_at m id ≡ total whole_len m + whole_len p
total_put m id p = by (get m id) refl
  where
    by : (o : Option Place) → get m id ≡ o → total whole_len (insert m id p) + option_map_or whole_len (get m id) 0 ≡ total whole_len m + whole_len p
    by None e = ap (λ o. total whole_len (insert m id p) + option_map_or whole_len o 0) e ∙ omega (arith, total-insert whole_len m id p e)
    by (Some old) e =
        let again = ap (total whole_len) (insert_removed m id p) in
        let put = total-insert whole_len (remove m id) id p (get_removed m id) in
        let gone = total-remove whole_len m id old e in
        ap (λ o. total whole_len (insert m id p) + option_map_or whole_len o 0) e ∙ omega (arith, again, put, gone)

-- what a record that is taken out takes away
pub total_take : (m : Places) (id : ℕ) → total whole_len (remove m id) + len_at m id ≡ total whole_len m
total_take m id = by (get m id) refl
  where
    by : (o : Option Place) → get m id ≡ o → total whole_len (remove m id) + option_map_or whole_len (get m id) 0 ≡ total whole_len m
    by None e = ap (λ o. total whole_len (remove m id) + option_map_or whole_len o 0) e ∙ omega (arith, ap (total whole_len) (remove_absent m id e))
    by (Some old) e = ap (λ o. total whole_len (remove m id) + option_map_or whole_len o 0) e ∙ total-remove whole_len m id old e

-- a record that may be there, where it stands in this file
abbrev filtered : ℕ → Option Place → Option Place
filtered f o = cond (option_map_or (λ (p : Place). nat_eq p.file f) o false) o None

put_point : (b c : Bool) (p : Place) (f : ℕ) (g : Option Place) → nat_eq p.file f ≡ b → filtered f (cond c (Some p) g) ≡ cond b (cond c (Some p) (filtered f g)) (cond c None (filtered f g))
put_point true true p f g e = ap (λ x. cond x (Some p) None) e
put_point true false p f g e = refl
put_point false true p f g e = ap (λ x. cond x (Some p) None) e
put_point false false p f g e = refl

take_point : (c : Bool) (f : ℕ) (g : Option Place) → filtered f (cond c None g) ≡ cond c None (filtered f g)
take_point true f g = refl
take_point false f g = refl

cond_get : (b : Bool) (m n : Places) (q : ℕ) → get (cond b m n) q ≡ cond b (get m q) (get n q)
cond_get true m n q = refl
cond_get false m n q = refl

-- a file's records once a record was put into another place
pub in_file_put : (m : Places) (id : ℕ) (p : Place) (f : ℕ) → in_file (insert m id p) f ≡ cond (nat_eq p.file f) (insert (in_file m f) id p) (remove (in_file m f) id)
in_file_put m id p f = alike _ _ (λ q.
    let here : get (insert (in_file m f) id p) q ≡ cond (nat_eq q id) (Some p) (filtered f (get m q)) = get_put (in_file m f) id p q ∙ ap (cond (nat_eq q id) (Some p)) (get_in m f q) in
    let away : get (remove (in_file m f) id) q ≡ cond (nat_eq q id) None (filtered f (get m q)) = get_without (in_file m f) id q ∙ ap (cond (nat_eq q id) None) (get_in m f q) in
    get_in (insert m id p) f q
    ∙ ap (filtered f) (get_put m id p q)
    ∙ put_point (nat_eq p.file f) (nat_eq q id) p f (get m q) refl
    ∙ sym (cond_get (nat_eq p.file f) (insert (in_file m f) id p) (remove (in_file m f) id) q ∙ (λ i. cond (nat_eq p.file f) (here i) (away i))))

-- a file's records once a record was taken out
pub in_file_take : (m : Places) (id f : ℕ) → in_file (remove m id) f ≡ remove (in_file m f) id
in_file_take m id f = alike _ _ (λ q.
    get_in (remove m id) f q
    ∙ ap (filtered f) (get_without m id q)
    ∙ take_point (nat_eq q id) f (get m q)
    ∙ sym (get_without (in_file m f) id q ∙ ap (cond (nat_eq q id) None) (get_in m f q)))

-- a record that isn't in this file
pub not_in : (m : Places) (f id : ℕ) → ((p : Place) → get m id ≡ Some p → nat_eq p.file f ≡ false) → get (in_file m f) id ≡ None
not_in m f id other = by (get m id) refl
  where
    by : (o : Option Place) → get m id ≡ o → get (in_file m f) id ≡ None
    by None e = get_in m f id ∙ ap (filtered f) e
    by (Some p) e = get_in m f id ∙ ap (filtered f) e ∙ ap (λ x. cond x (Some p) None) (other p e)

differ2 : (a b c : ℕ) → nat_eq a c ≡ true → nat_eq b c ≡ false → nat_eq a b ≡ false
differ2 a b c x y = grind (arith, nat_tests)

apart_of : (a b c : ℕ) → nat_eq b c ≡ true → nat_eq c a ≡ false → nat_eq a b ≡ false
apart_of a b c x y = grind (arith, nat_tests)

some_one : {A : Type 0} (x y : A) → Some x ≡ Some y → x ≡ y
some_one x y e = cc

-- where a record was put whose id wasn't in another file
pub put_here : (m : Places) (old new : FinMap nat_cmp Places) (id : ℕ) (p : Place) → IsByFile m old → ChangesFile old new p.file (insert (records_at old p.file) id p)
    → ((q : Place) → get m id ≡ Some q → nat_eq q.file p.file ≡ true) → IsByFile (insert m id p) new
put_here m old new id p is changed here f = by (nat_eq f p.file) refl
  where
    by : (b : Bool) → nat_eq f p.file ≡ b → records_at new f ≡ in_file (insert m id p) f
    by true e =
        changed f ∙ ap (λ x. cond x (insert (records_at old p.file) id p) (records_at old f)) e
        ∙ ap (λ r. insert r id p) (is p.file ∙ ap (in_file m) (equal f p.file e))
        ∙ sym (in_file_put m id p f ∙ ap (λ x. cond x (insert (in_file m f) id p) (remove (in_file m f) id)) (turned p.file f ∙ e))
    by false e =
        changed f ∙ ap (λ x. cond x (insert (records_at old p.file) id p) (records_at old f)) e
        ∙ is f
        ∙ sym (in_file_put m id p f ∙ ap (λ x. cond x (insert (in_file m f) id p) (remove (in_file m f) id)) (turned p.file f ∙ e)
        ∙ remove_absent (in_file m f) id (not_in m f id (λ q at. differ2 q.file f p.file (here q at) e)))

-- where a record was put that stood in another file, and taken from there
pub put_moved : (m : Places) (old middle new : FinMap nat_cmp Places) (id : ℕ) (p q : Place) → IsByFile m old → ChangesFile old middle p.file (insert (records_at old p.file) id p)
    → ChangesFile middle new q.file (remove (records_at middle q.file) id) → get m id ≡ Some q → nat_eq q.file p.file ≡ false → IsByFile (insert m id p) new
put_moved m old middle new id p q is put gone at apart f = by (nat_eq f q.file) (nat_eq f p.file) refl refl
  where
    target : in_file (insert m id p) f ≡ cond (nat_eq p.file f) (insert (in_file m f) id p) (remove (in_file m f) id)
    target = in_file_put m id p f

    by : (b c : Bool) → nat_eq f q.file ≡ b → nat_eq f p.file ≡ c → records_at new f ≡ in_file (insert m id p) f
    by true c e h =
        let other : nat_eq p.file f ≡ false = apart_of p.file f q.file e apart in
        let source : records_at middle q.file ≡ in_file m f = put q.file ∙ ap (λ x. cond x (insert (records_at old p.file) id p) (records_at old q.file)) apart ∙ is q.file ∙ ap (in_file m) (equal f q.file e) in
        gone f ∙ ap (λ x. cond x (remove (records_at middle q.file) id) (records_at middle f)) e ∙ ap (λ r. remove r id) source
        ∙ sym (target ∙ ap (λ x. cond x (insert (in_file m f) id p) (remove (in_file m f) id)) other)
    by false true e h =
        gone f ∙ ap (λ x. cond x (remove (records_at middle q.file) id) (records_at middle f)) e
        ∙ put f ∙ ap (λ x. cond x (insert (records_at old p.file) id p) (records_at old f)) h
        ∙ ap (λ r. insert r id p) (is p.file ∙ ap (in_file m) (equal f p.file h))
        ∙ sym (target ∙ ap (λ x. cond x (insert (in_file m f) id p) (remove (in_file m f) id)) (turned p.file f ∙ h))
    by false false e h =
        gone f ∙ ap (λ x. cond x (remove (records_at middle q.file) id) (records_at middle f)) e
        ∙ put f ∙ ap (λ x. cond x (insert (records_at old p.file) id p) (records_at old f)) h
        ∙ is f
        ∙ sym (target ∙ ap (λ x. cond x (insert (in_file m f) id p) (remove (in_file m f) id)) (turned p.file f ∙ h)
        ∙ remove_absent (in_file m f) id (not_in m f id (λ r found. ap (λ (x : Place). nat_eq x.file f) (some_one r q (sym found ∙ at)) ∙ turned q.file f ∙ e)))

-- where a record was put and taken out again
pub put_back : (m : Places) (old middle new : FinMap nat_cmp Places) (id : ℕ) (p : Place) → IsByFile m old → ChangesFile old middle p.file (insert (records_at old p.file) id p)
    → ChangesFile middle new p.file (remove (records_at middle p.file) id) → get m id ≡ None → IsByFile m new
put_back m old middle new id p is put gone none f = by (nat_eq f p.file) refl
  where
    by : (b : Bool) → nat_eq f p.file ≡ b → records_at new f ≡ in_file m f
    by true e =
        let there : records_at middle p.file ≡ insert (in_file m f) id p =
        put p.file ∙ ap (λ x. cond x (insert (records_at old p.file) id p) (records_at old p.file)) (itself p.file) ∙ ap (λ r. insert r id p) (is p.file ∙ ap (in_file m) (equal f p.file e))
        in
        gone f ∙ ap (λ x. cond x (remove (records_at middle p.file) id) (records_at middle f)) e ∙ ap (λ r. remove r id) there
        ∙ remove_inserted (in_file m f) id p (get_in m f id ∙ ap (filtered f) none)
    by false e =
        gone f ∙ ap (λ x. cond x (remove (records_at middle p.file) id) (records_at middle f)) e
        ∙ put f ∙ ap (λ x. cond x (insert (records_at old p.file) id p) (records_at old f)) e ∙ is f

-- where a record was taken out
pub taken : (m : Places) (old new : FinMap nat_cmp Places) (id : ℕ) (p : Place) → IsByFile m old → ChangesFile old new p.file (remove (records_at old p.file) id) → get m id ≡ Some p → IsByFile (remove m id) new
taken m old new id p is gone at f = by (nat_eq f p.file) refl
  where
    by : (b : Bool) → nat_eq f p.file ≡ b → records_at new f ≡ in_file (remove m id) f
    by true e =
        gone f ∙ ap (λ x. cond x (remove (records_at old p.file) id) (records_at old f)) e ∙ ap (λ r. remove r id) (is p.file ∙ ap (in_file m) (equal f p.file e)) ∙ sym (in_file_take m id f)
    by false e =
        gone f ∙ ap (λ x. cond x (remove (records_at old p.file) id) (records_at old f)) e ∙ is f
        ∙ sym (in_file_take m id f ∙ remove_absent (in_file m f) id (not_in m f id (λ r found. ap (λ (x : Place). nat_eq x.file f) (some_one r p (sym found ∙ at)) ∙ turned p.file f ∙ e)))

-- where no record was taken out
pub none_taken : (m : Places) (old : FinMap nat_cmp Places) (id : ℕ) → IsByFile m old → get m id ≡ None → IsByFile (remove m id) old
none_taken m old id is none f = is f ∙ ap (λ (n : Places). in_file n f) (sym (remove_absent m id none))

nothing : (es : List (ℕ × Place)) → sum_of whole_len es ≡ 0 → es ≡ []
nothing [] e = refl
nothing (x ∷ es) e = absurd (omega arith)

-- a file with no live bytes has no record
pub none_live : (m : Places) → total whole_len m ≡ 0 → m ≡ empty
none_live m zero = empty_of_len m (len-entries m ∙ ap length (nothing (entries m) zero))

-- where a file without records was forgotten
pub forgotten : (m : Places) (old : FinMap nat_cmp Places) (file : ℕ) → IsByFile m old → live_bytes m file ≡ 0 → IsByFile m (remove old file)
forgotten m old file is zero f = by (nat_eq f file) refl
  where
    by : (b : Bool) → nat_eq f file ≡ b → records_at (remove old file) f ≡ in_file m f
    by true e = ap (λ o. unwrap_or o empty) (get_without old file f ∙ ap (λ x. cond x None (get old f)) e) ∙ sym (ap (in_file m) (sym (equal f file e)) ∙ none_live (in_file m file) zero)
    by false e = ap (λ o. unwrap_or o empty) (get_without old file f ∙ ap (λ x. cond x None (get old f)) e) ∙ is f

-- a list of records that is new, at a file that had none
pub opened : (files : FinMap nat_cmp Places) (file : ℕ) → get files file ≡ None → (f : ℕ) → records_at (insert files file empty) f ≡ records_at files f
opened files file none f = by (nat_eq f file) refl
  where
    by : (b : Bool) → nat_eq f file ≡ b → records_at (insert files file empty) f ≡ records_at files f
    by true e = ap (λ o. unwrap_or o empty) (get_put files file empty f ∙ ap (λ x. cond x (Some empty) (get files f)) e) ∙ sym (ap (λ o. unwrap_or o empty) (ap (get files) (sym (equal f file e)) ∙ none))
    by false e = ap (λ o. unwrap_or o empty) (get_put files file empty f ∙ ap (λ x. cond x (Some empty) (get files f)) e)

-- a file's records that were replaced twice
pub replaced : (old made : FinMap nat_cmp Places) (file : ℕ) (other records : Places) → ((f : ℕ) → records_at made f ≡ records_at old f) → ChangesFile old (insert (insert made file other) file records) file records
replaced old made file other records same f = by (nat_eq f file) refl
  where
    first : get (insert (insert made file other) file records) f ≡ cond (nat_eq f file) (Some records) (cond (nat_eq f file) (Some other) (get made f))
    first = get_put (insert made file other) file records f ∙ ap (cond (nat_eq f file) (Some records)) (get_put made file other f)

    by : (b : Bool) → nat_eq f file ≡ b → records_at (insert (insert made file other) file records) f ≡ cond (nat_eq f file) records (records_at old f)
    by true e = ap (λ o. unwrap_or o empty) (first ∙ ap (λ x. cond x (Some records) (cond x (Some other) (get made f))) e) ∙ sym (ap (λ x. cond x records (records_at old f)) e)
    by false e = ap (λ o. unwrap_or o empty) (first ∙ ap (λ x. cond x (Some records) (cond x (Some other) (get made f))) e) ∙ same f ∙ sym (ap (λ x. cond x records (records_at old f)) e)

none_counted : (es : List (ℕ × Place)) → length es ≡ 0 → sum_of whole_len es ≡ 0
none_counted [] e = refl
none_counted (x ∷ es) e = absurd (omega arith)

pub total_empty : total whole_len (empty {X = Place} {R = nat_cmp}) ≡ 0
total_empty = none_counted (entries (empty {X = Place} {R = nat_cmp})) (sym (len-entries (empty {X = Place} {R = nat_cmp})) ∙ len-empty nat_cmp Place)

-- a map that has no file is by file the places of no message
pub by_file_empty : IsByFile (empty {X = Place} {R = nat_cmp}) (empty {X = Places} {R = nat_cmp})
by_file_empty f =
    ap (λ o. unwrap_or o empty) (get-empty nat_cmp f)
    ∙ alike _ _ (λ q. get-empty nat_cmp q ∙ sym (get_in empty f q ∙ ap (filtered f) (get-empty nat_cmp q)))

-- a file that the map doesn't have has no record
pub no_records : (files : FinMap nat_cmp Places) (file : ℕ) → get files file ≡ None → records_at files file ≡ empty
no_records files file none = ap (λ o. unwrap_or o empty) none

no_entries : (es : List (ℕ × Place)) → length es ≡ 0 → map block_of es ≡ []
no_entries [] e = refl
no_entries (x ∷ es) e = absurd (omega arith)

pub blocks_of-empty : blocks_of empty ≡ []
blocks_of-empty = no_entries (entries (empty {X = Place} {R = nat_cmp})) (sym (len-entries (empty {X = Place} {R = nat_cmp})) ∙ len-empty nat_cmp Place)

-- a key that was put is there
pub got_inserted : (files : FinMap nat_cmp Places) (file : ℕ) (records : Places) → IsSome (get (insert files file records) file)
got_inserted files file records = ap is_some (get_inserted files file records)

-- records that were put back as they were change no file
pub kept : (old new : FinMap nat_cmp Places) (file : ℕ) → ChangesFile old new file (records_at old file) → (f : ℕ) → records_at new f ≡ records_at old f
kept old new file changed f = by (nat_eq f file) refl
  where
    by : (b : Bool) → nat_eq f file ≡ b → records_at new f ≡ records_at old f
    by true e = changed f ∙ ap (λ x. cond x (records_at old file) (records_at old f)) e ∙ ap (records_at old) (equal f file e)
    by false e = changed f ∙ ap (λ x. cond x (records_at old file) (records_at old f)) e

-- a file that the map doesn't have loses nothing
pub nothing_taken : (files : FinMap nat_cmp Places) (file id : ℕ) → get files file ≡ None → ChangesFile files files file (remove (records_at files file) id)
nothing_taken files file id none f = by (nat_eq f file) refl
  where
    by : (b : Bool) → nat_eq f file ≡ b → records_at files f ≡ cond (nat_eq f file) (remove (records_at files file) id) (records_at files f)
    by true e =
        ap (records_at files) (sym (equal f file e))
        ∙ sym (remove_absent (records_at files file) id (ap (λ m. get m id) (ap (λ o. unwrap_or o empty) none) ∙ get-empty nat_cmp id))
        ∙ sym (ap (λ x. cond x (remove (records_at files file) id) (records_at files f)) e)
    by false e = sym (ap (λ x. cond x (remove (records_at files file) id) (records_at files f)) e)

-- what a file's live bytes are once a record was put there
pub live_put : (m : Places) (files : FinMap nat_cmp Places) (id : ℕ) (p : Place) → IsByFile m files → total whole_len (insert (records_at files p.file) id p) ≡ live_bytes (insert m id p) p.file
live_put m files id p is =
    ap (λ r. total whole_len (insert r id p)) (is p.file)
    ∙ sym (ap (total whole_len) (in_file_put m id p p.file ∙ ap (λ x. cond x (insert (in_file m p.file) id p) (remove (in_file m p.file) id)) (itself p.file)))

-- a record stands in its file
pub found_in : (m : Places) (files : FinMap nat_cmp Places) (id : ℕ) (q : Place) (file : ℕ) → IsByFile m files → get (records_at files file) id ≡ None → get m id ≡ Some q → nat_eq q.file file ≡ false
found_in m files id q file is none at = by (nat_eq q.file file) refl
  where
    by : (b : Bool) → nat_eq q.file file ≡ b → nat_eq q.file file ≡ false
    by true e =
        let there : get (records_at files file) id ≡ Some q = ap (λ r. get r id) (is file) ∙ get_in m file id ∙ ap (filtered file) at ∙ ap (λ x. cond x (Some q) None) e in
        let both : Some q ≡ None = sym there ∙ none in cc
    by false e = e

-- a record adds no more than its whole length to its file
pub live_more : (m : Places) (id : ℕ) (p : Place) → live_bytes (insert m id p) p.file ≤ live_bytes m p.file + whole_len p
live_more m id p =
    let here : live_bytes (insert m id p) p.file ≡ total whole_len (insert (in_file m p.file) id p) =
    ap (total whole_len) (in_file_put m id p p.file ∙ ap (λ x. cond x (insert (in_file m p.file) id p) (remove (in_file m p.file) id)) (itself p.file)) in
    omega (arith, here, total_put (in_file m p.file) id p)
