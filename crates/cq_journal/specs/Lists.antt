-- Lists of messages and of deliveries, and lists of which one stands in the other.
use Rattle.std.specs.Prelude.{◌≡◌, ◌⊎◌, false, List, [], ◌∷◌}
use Rattle.std.specs.List.{list_any}
use Rattle.cq_journal.specs.declared.event.Message.{Message}
use Rattle.cq_journal.specs.History.{Delivery, has_id, is_delivery}

-- x stands in the list
abbrev pub IsIn : {A : Type 0} → List A → A → Type 0
IsIn [] x = ⊥
IsIn (y ∷ ys) x = (y ≡ x) ⊎ IsIn ys x

-- the elements of the one list stand in the other, in their order
abbrev pub IsSublist : {A : Type 0} → List A → List A → Type 0
IsSublist [] [] = Unit {0}
IsSublist (x ∷ xs) [] = ⊥
IsSublist [] (y ∷ ys) = Unit {0}
IsSublist (x ∷ xs) (y ∷ ys) = ((x ≡ y) × IsSublist xs ys) ⊎ IsSublist (x ∷ xs) ys

-- no two messages have one id
abbrev pub HasDistinctIds : List Message → Type 0
HasDistinctIds [] = Unit {0}
HasDistinctIds (m ∷ ms) = (has_id ms m.id ≡ false) × HasDistinctIds ms

-- no two deliveries have one client and number
abbrev pub HaveKeys : List Delivery → Type 0
HaveKeys [] = Unit {0}
HaveKeys (d ∷ ds) = (list_any (is_delivery d.client d.number) ds ≡ false) × HaveKeys ds
