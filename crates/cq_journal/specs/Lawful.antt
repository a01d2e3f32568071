-- That a journal is legal has one proof at most, so that a struct can keep it.
use Rattle.std.specs.Prelude.{◌≡◌, ◌≢◌, ℕ, List, [], ◌∷◌}
use Rattle.std.specs.Coded.{Coded-set, coded_bool, coded_list, coded_ℕ, le_prop}
use Rattle.std.specs.List.{AllByRecursion}
use Rattle.std.proofs.Math.Path.{path_j, refl, subst, sym, ◌∙◌}
use Rattle.cq_bytes.specs.Numbers.{AreQueues}
use Rattle.cq_journal.specs.declared.event.Event.{Event}
use Rattle.cq_journal.specs.declared.event.Event.TheVariants.{Opened, Published, Delivered, Empty, Busy, Acked, Unknown, Dropped, Ended, Confirmed, Settled}
use Rattle.cq_journal.specs.declared.event.Entry.{Entry}
use Rattle.cq_journal.specs.declared.lines.Line.{Line}
use Rattle.cq_journal.specs.declared.event.Message.{Message}
use Rattle.cq_journal.specs.History.{waiting}
use Rattle.cq_journal.specs.Legal.{AreLines, IsFirst, Allowed, StartsWithOpened, Legal}

module _ {A : Type 0} where
  abbrev IsNone : List A → Type 0
  IsNone [] = Unit {0}
  IsNone (x ∷ xs) = ⊥

  abbrev none : (xs : List A) → IsNone xs → [] ≡ xs
  none [] is = refl
  none (x ∷ xs) is = absurd is

  none_is : (xs : List A) (p : [] ≡ xs) → none xs (subst IsNone p tt) ≡ p
  none_is xs p = path_j (λ ys q. none ys (subst IsNone q tt) ≡ q) refl p

  none-prop : (xs : List A) → IsProp (xs ≡ [])
  none-prop [] = λ p q. sym (none_is [] p) ∙ none_is [] q
  none-prop (x ∷ xs) = λ p q. absurd (subst IsNone (sym p) tt)

Apart-prop : (l : Line) (ls : List Line) → IsProp (AllByRecursion (λ k. l.id ≡ k.id → (l.queue ≢ k.queue) × (l.body ≡ k.body)) ls)
Apart-prop l [] = hlevel
Apart-prop l (k ∷ ls) = hlevel (Coded-set (coded_list coded_ℕ), Apart-prop l ls)

AreLines-prop : (ls : List Line) → IsProp (AreLines ls)
AreLines-prop [] = hlevel
AreLines-prop (l ∷ ls) = hlevel (Apart-prop l ls, AreLines-prop ls)

AreQueues-prop : (qs : List ℕ) → IsProp (AreQueues qs)
AreQueues-prop [] = hlevel
AreQueues-prop (q ∷ qs) = hlevel (le_prop, Coded-set coded_bool, AreQueues-prop qs)

IsFirst-prop : (id : ℕ) (ms : List Message) → IsProp (IsFirst id ms)
IsFirst-prop id [] = hlevel
IsFirst-prop id (m ∷ ms) = hlevel (Coded-set coded_ℕ)

Allowed-prop : (past : List Entry) (event : Event) → IsProp (Allowed past event)
Allowed-prop past (Opened lines) = hlevel (none-prop past, AreLines-prop lines)
Allowed-prop past (Published client number id queues body) = hlevel (le_prop, Coded-set coded_ℕ, Coded-set coded_bool, AreQueues-prop queues)
Allowed-prop past (Delivered client number queue id) = hlevel (le_prop, Coded-set coded_ℕ, IsFirst-prop id (waiting past queue))
Allowed-prop past (Empty client queue) = hlevel (le_prop, none-prop (waiting past queue))
Allowed-prop past (Busy client queue) = hlevel (Coded-set coded_ℕ)
Allowed-prop past (Acked client number) = hlevel (Coded-set coded_bool)
Allowed-prop past (Unknown client number) = hlevel (Coded-set coded_bool)
Allowed-prop past (Dropped client number) = hlevel (Coded-set coded_bool)
Allowed-prop past (Ended client) = hlevel
Allowed-prop past (Confirmed client number id) = hlevel (Coded-set coded_bool)
Allowed-prop past (Settled queue id) = hlevel (Coded-set coded_bool)

StartsWithOpened-prop : (past : List Entry) (event : Event) → IsProp (StartsWithOpened past event)
StartsWithOpened-prop [] (Opened lines) = hlevel
StartsWithOpened-prop [] (Published client number id queues body) = hlevel
StartsWithOpened-prop [] (Delivered client number queue id) = hlevel
StartsWithOpened-prop [] (Empty client queue) = hlevel
StartsWithOpened-prop [] (Busy client queue) = hlevel
StartsWithOpened-prop [] (Acked client number) = hlevel
StartsWithOpened-prop [] (Unknown client number) = hlevel
StartsWithOpened-prop [] (Dropped client number) = hlevel
StartsWithOpened-prop [] (Ended client) = hlevel
StartsWithOpened-prop [] (Confirmed client number id) = hlevel
StartsWithOpened-prop [] (Settled queue id) = hlevel
StartsWithOpened-prop (e ∷ past) event = hlevel

pub Legal-prop : (past : List Entry) → IsProp (Legal past)
Legal-prop [] = hlevel
Legal-prop (e ∷ past) = hlevel (le_prop, Allowed-prop past e.event, StartsWithOpened-prop past e.event, Legal-prop past)
