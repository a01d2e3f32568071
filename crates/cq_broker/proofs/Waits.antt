-- What the journal tells of what a queue has in memory.
use Rattle.std.proofs.Common.{◌≡◌, ℕ, ◌<◌, false, List, [], ◌∷◌, length, arith}
use Rattle.std.proofs.Math.Logic.{∥∥₁_elim}
use Rattle.std.specs.Coded.{Coded-set, coded_bool, le_prop}
use Rattle.std.specs.Ordering.{nat_cmp}
use Rattle.std.specs.FinMap.{FinMap}
use Rattle.cq_journal.specs.declared.event.Entry.{Entry}
use Rattle.cq_journal.specs.declared.event.Message.{Message}
use Rattle.cq_journal.specs.History.{waiting}
use Rattle.cq_journal.specs.Legal.{IsFirst, Legal, delivered}
use Rattle.cq_items.specs.Item.{Item}
use Rattle.cq_items.specs.Items.{is_out_to, waiting_items}
use Rattle.cq_queue_laws.proofs.Told.{follows-count, follows-fresh}
use Rattle.cq_confirm.specs.declared.lack.Lack.{Lack}
use Rattle.cq_broker.specs.InMemory.{IsInMemory}

some_first : (id : ℕ) (ms : List Message) → IsFirst id ms → 0 < length ms
some_first id [] first = absurd first
some_first id (m ∷ ms) first = omega arith

less-prop : (a b : ℕ) → IsProp (a < b)
less-prop a b = hlevel le_prop

off-prop : (items : List Item) (c d : ℕ) → IsProp (is_out_to c d items ≡ false)
off-prop items c d = hlevel (Coded-set coded_bool)

pub some_waits : (items : ℕ → List Item) (past : List Entry) (lacks : FinMap nat_cmp Lack) (q id : ℕ) → Legal past → ∥ IsInMemory items past lacks ∥₁
    → IsFirst id (waiting past q) → 0 < length (waiting_items (items q))
some_waits items past lacks q id legal kept first =
    ∥∥₁_elim kept (less-prop 0 (length (waiting_items (items q)))) (λ m. omega (arith, follows-count (items q) past q legal (m.in_step q).follows, some_first id (waiting past q) first))

pub next_fresh : (items : ℕ → List Item) (past : List Entry) (lacks : FinMap nat_cmp Lack) (q c : ℕ) → Legal past → ∥ IsInMemory items past lacks ∥₁
    → is_out_to c (delivered past c) (items q) ≡ false
next_fresh items past lacks q c legal kept =
    ∥∥₁_elim kept (off-prop (items q) c (delivered past c)) (λ m. follows-fresh (items q) past q c legal (m.in_step q).follows)
