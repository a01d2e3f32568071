-- Lists that are split into what is kept and what has left.
use Rattle.std.proofs.Common.{◌≡◌, inl, inr, ⊎_elim, ℕ, zero, suc, Bool, true, false, List, [], ◌∷◌, ◌++◌, refl, sym, ap, ◌∙◌, subst}
use Rattle.std.specs.Prelude.{◌==◌, ◌||◌, not, if◌then◌else◌}
use Rattle.std.proofs.lemmas.Bool.{false≢true, eqb-true}
use Rattle.cq_bytes.specs.Numbers.{contains}
use Rattle.cq_journal.specs.declared.event.Message.{Message}
use Rattle.cq_journal.specs.History.{has_id}
use Rattle.cq_journal.specs.Lists.{HasDistinctIds, IsSublist, IsIn}
use Rattle.cq_folder.specs.Folder.{spots, below}
use Rattle.std.specs.List.{AllZip}
use Rattle.cq_entry.specs.declared.entry.Entry.{Entry}
use Rattle.cq_folder.specs.Holding.{Splits, left_out}
use Rattle.cq_folder.proofs.Sublists.{in_has, clash}

pub split_self : {A : Type 0} (xs : List A) → Splits xs xs []
split_self [] = (refl, refl)
split_self (x ∷ xs) = inl (xs, (refl, split_self xs))

pub split_append : {A : Type 0} (a b ka kb la lb : List A) → Splits a ka la → Splits b kb lb → Splits (a ++ b) (ka ++ kb) (la ++ lb)
split_append [] b ka kb la lb s t = subst (λ (k : List _). Splits b (k ++ kb) (la ++ lb)) (sym s.0) (subst (λ (l : List _). Splits b kb (l ++ lb)) (sym s.1) t)
split_append (x ∷ a) b ka kb la lb s t = ⊎_elim
    (λ kept. inl (kept.0 ++ kb, (ap (λ (k : List _). k ++ kb) kept.1.0, split_append a b kept.0 kb la lb kept.1.1 t)))
    (λ gone. inr (gone.0 ++ lb, (ap (λ (l : List _). l ++ lb) gone.1.0, split_append a b ka kb gone.0 lb gone.1.1 t))) s

pub split_below : {A : Type 0} (all kept left : ℕ → List A) (m : ℕ) → ((n : ℕ) → Splits (all n) (kept n) (left n)) → Splits (below all m) (below kept m) (below left m)
split_below all kept left zero each = (refl, refl)
split_below all kept left (suc m) each = split_append (below all m) (all m) (below kept m) (kept m) (below left m) (left m) (split_below all kept left m each) (each m)

pub split_spots : (n : ℕ) (all kept left : List Entry) → Splits all kept left → Splits (spots n all) (spots n kept) (spots n left)
split_spots n [] kept left s = (ap (spots n) s.0, ap (spots n) s.1)
split_spots n (e ∷ all) kept left s = ⊎_elim
    (λ k. inl (spots n k.0, (ap (spots n) k.1.0, split_spots n all k.0 left k.1.1)))
    (λ g. inr (spots n g.0, (ap (spots n) g.1.0, split_spots n all kept g.0 g.1.1))) s

-- what corresponds is split alike
pub record ZipSplit {A B : Type 0} (R : A → B → Type 0) (kept left : List A) (ms : List B) : Type 0 where
  pub keeps : List B
  pub leaves : List B
  pub splits : Splits ms keeps leaves
  pub here : AllZip R kept keeps
  pub gone : AllZip R left leaves

pub zip_split : {A B : Type 0} (R : A → B → Type 0) (all kept left : List A) (ms : List B) → AllZip R all ms → Splits all kept left → ZipSplit R kept left ms
zip_split R [] kept left [] z s = record {
  keeps = [];
  leaves = [];
  splits = (refl, refl);
  here = subst (λ (k : List _). AllZip R k []) (sym s.0) tt;
  gone = subst (λ (k : List _). AllZip R k []) (sym s.1) tt;
}
zip_split R [] kept left (m ∷ ms) z s = absurd z
zip_split R (x ∷ all) kept left [] z s = absurd z
zip_split R (x ∷ all) kept left (m ∷ ms) z s = ⊎_elim
    (λ k. let r = zip_split R all k.0 left ms z.1 k.1.1 in record {
      keeps = m ∷ r.keeps;
      leaves = r.leaves;
      splits = inl (r.keeps, (refl, r.splits));
      here = subst (λ (l : List _). AllZip R l (m ∷ r.keeps)) (sym k.1.0) (z.0, r.here);
      gone = r.gone;
    })
    (λ g. let r = zip_split R all kept g.0 ms z.1 g.1.1 in record {
      keeps = r.keeps;
      leaves = m ∷ r.leaves;
      splits = inr (r.leaves, (refl, r.splits));
      here = r.here;
      gone = subst (λ (l : List _). AllZip R l (m ∷ r.leaves)) (sym g.1.0) (z.0, r.gone);
    }) s

pub kept_in : {A : Type 0} (all kept left : List A) (y : A) → Splits all kept left → IsIn kept y → IsIn all y
kept_in [] kept left y s there = absurd (subst (λ (k : List _). IsIn k y) s.0 there)
kept_in (x ∷ all) kept left y s there = ⊎_elim
    (λ k. ⊎_elim (λ here. inl here) (λ later. inr (kept_in all k.0 left y k.1.1 later)) (subst (λ (l : List _). IsIn l y) k.1.0 there))
    (λ g. inr (kept_in all kept g.0 y g.1.1 there)) s

pub left_in : {A : Type 0} (all kept left : List A) (y : A) → Splits all kept left → IsIn left y → IsIn all y
left_in [] kept left y s there = absurd (subst (λ (k : List _). IsIn k y) s.1 there)
left_in (x ∷ all) kept left y s there = ⊎_elim
    (λ k. inr (left_in all k.0 left y k.1.1 there))
    (λ g. ⊎_elim (λ here. inl here) (λ later. inr (left_in all kept g.0 y g.1.1 later)) (subst (λ (l : List _). IsIn l y) g.1.0 there)) s

pub later_sublist : {A : Type 0} (kept all : List A) (x : A) → IsSublist kept all → IsSublist kept (x ∷ all)
later_sublist [] all x sub = tt
later_sublist (k ∷ kept) all x sub = inr sub

pub split_sublist : {A : Type 0} (all kept left : List A) → Splits all kept left → IsSublist kept all
split_sublist [] kept left s = subst (λ (k : List _). IsSublist k []) (sym s.0) tt
split_sublist (x ∷ all) kept left s = ⊎_elim
    (λ k. subst (λ (l : List _). IsSublist l (x ∷ all)) (sym k.1.0) (inl (refl, split_sublist all k.0 left k.1.1)))
    (λ g. later_sublist kept all x (split_sublist all kept g.0 g.1.1)) s

none_sublist : {A : Type 0} (xs : List A) → IsSublist [] xs
none_sublist [] = tt
none_sublist (x ∷ xs) = tt

pub sublist_trans : {A : Type 0} (a b c : List A) → IsSublist a b → IsSublist b c → IsSublist a c
sublist_trans [] b c s t = none_sublist c
sublist_trans (x ∷ a) [] c s t = absurd s
sublist_trans (x ∷ a) (y ∷ b) [] s t = absurd t
sublist_trans (x ∷ a) (y ∷ b) (z ∷ c) s t = ⊎_elim
    (λ own. ⊎_elim
    (λ both. inl (both.0 ∙ own.0, sublist_trans a b c both.1 own.1))
    (λ later. inr (sublist_trans (x ∷ a) b c later own.1)) s)
    (λ skip. inr (sublist_trans (x ∷ a) (y ∷ b) c s skip)) t

-- an id that stands there and isn't of what left stands among what is kept
pub split_has : (all kept left : List Message) (x : ℕ) → Splits all kept left → has_id left x ≡ false → has_id all x ≡ true → has_id kept x ≡ true
split_has [] kept left x s none there = absurd (false≢true there)
split_has (m ∷ all) kept left x s none there = ⊎_elim {A = (rest : List Message) × ((kept ≡ m ∷ rest) × Splits all rest left)} {B = (rest : List Message) × ((left ≡ m ∷ rest) × Splits all kept rest)}
    (λ k. subst (λ (l : List Message). has_id l x ≡ true) (sym k.1.0)
    (elim (m.id == x) as (λ (b : Bool). (b || has_id all x) ≡ true → (b || has_id k.0 x) ≡ true) [
      | true ↦ λ any. refl
      | false ↦ λ later. split_has all k.0 left x k.1.1 none later
    ] there))
    (λ g.
    let both : (m.id == x || has_id g.0 x) ≡ false = ap (λ (l : List Message). has_id l x) (sym g.1.0) ∙ none in
    (elim (m.id == x) as (λ (b : Bool). (b || has_id g.0 x) ≡ false → (b || has_id all x) ≡ true → has_id kept x ≡ true) [
      | true ↦ λ clash any. absurd (false≢true (sym clash))
      | false ↦ λ rest later. split_has all kept g.0 x g.1.1 rest later
    ]) both there) s

-- no id is kept and has left
pub split_apart : {A : Type 0} (all kept left : List Message) (m k : Message) → Splits all kept left → HasDistinctIds all → IsIn kept m → IsIn left k → m.id ≡ k.id → A
split_apart [] kept left m k s d here there same = absurd (subst (λ (l : List Message). IsIn l m) s.0 here)
split_apart (x ∷ all) kept left m k s d here there same = ⊎_elim
    (λ own. ⊎_elim
    (λ (is : x ≡ m). clash (has_id all x.id) d.0 (subst (λ (y : ℕ). has_id all y ≡ true) (sym same ∙ sym (ap (λ (w : Message). w.id) is)) (in_has all k (left_in all own.0 left k own.1.1 there))))
    (λ later. split_apart all own.0 left m k own.1.1 d.1 later there same) (subst (λ (l : List Message). IsIn l m) own.1.0 here))
    (λ gone. ⊎_elim
    (λ (is : x ≡ k). clash (has_id all x.id) d.0 (subst (λ (y : ℕ). has_id all y ≡ true) (same ∙ sym (ap (λ (w : Message). w.id) is)) (in_has all m (kept_in all kept gone.0 m gone.1.1 here))))
    (λ later. split_apart all kept gone.0 m k gone.1.1 d.1 here later same) (subst (λ (l : List Message). IsIn l k) gone.1.0 there)) s

-- where exactly the messages of these ids have left, the others are kept
pub split_left_out : (ids : List ℕ) (all kept left : List Message) → Splits all kept left → ((m : Message) → IsIn left m → contains ids m.id ≡ true) → ((m : Message) → IsIn kept m → contains ids m.id ≡ false) → kept ≡ left_out ids all
split_left_out ids [] kept left s of_ids apart = s.0
split_left_out ids (x ∷ all) kept left s of_ids apart = ⊎_elim
    (λ k.
    let no_id : contains ids x.id ≡ false = apart x (subst (λ (l : List Message). IsIn l x) (sym k.1.0) (inl refl)) in
    k.1.0 ∙ ap (λ (l : List Message). x ∷ l) (split_left_out ids all k.0 left k.1.1 of_ids (λ m there. apart m (subst (λ (l : List Message). IsIn l m) (sym k.1.0) (inr there))))
    ∙ ap (λ (b : Bool). if not b then x ∷ left_out ids all else left_out ids all) (sym no_id))
    (λ g.
    let has : contains ids x.id ≡ true = of_ids x (subst (λ (l : List Message). IsIn l x) (sym g.1.0) (inl refl)) in
    split_left_out ids all kept g.0 g.1.1 (λ m there. of_ids m (subst (λ (l : List Message). IsIn l m) (sym g.1.0) (inr there))) apart
    ∙ ap (λ (b : Bool). if not b then x ∷ left_out ids all else left_out ids all) (sym has)) s

-- none of these ids stands in what is left of them
pub left_out_lacks : (ids : List ℕ) (ms : List Message) (x : ℕ) → contains ids x ≡ true → has_id (left_out ids ms) x ≡ false
left_out_lacks ids [] x has = refl
left_out_lacks ids (m ∷ ms) x has = (elim (contains ids m.id) as (λ (b : Bool). contains ids m.id ≡ b → has_id (if not b then m ∷ left_out ids ms else left_out ids ms) x ≡ false) [
  | true ↦ λ there. left_out_lacks ids ms x has
  | false ↦ λ none. (elim (m.id == x) as (λ (b : Bool). (m.id == x) ≡ b → (b || has_id (left_out ids ms) x) ≡ false) [
    | true ↦ λ same. clash (contains ids m.id) none (subst (λ (y : ℕ). contains ids y ≡ true) (sym (eqb-true m.id x same)) has)
    | false ↦ λ other. left_out_lacks ids ms x has
  ]) refl
]) refl
