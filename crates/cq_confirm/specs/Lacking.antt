-- The messages that lack a queue, by id, with the publish that each came from and how many queues it lacks.
use Rattle.std.specs.Prelude.{◌≡◌, ℕ, ◌-◌, ◌<◌, ◌==◌, if◌then◌else◌, Option, None, Some, refl}
use Rattle.std.specs.Ordering.{nat_cmp}
use Rattle.std.specs.Coded.{Coded, code_by, coded×, coded_ℕ}
use Rattle.std.specs.FinMap.{FinMap, get, insert, remove}
use Rattle.cq_confirm.specs.declared.lack.Lack.{Lack}
use Rattle.cq_confirm.specs.declared.lack.Sure.{Sure}

-- what is kept lacks a queue
abbrev pub EachLacks : FinMap nat_cmp Lack → Type 0
EachLacks lacks = (id : ℕ) (l : Lack) → get lacks id ≡ Some l → 0 < l.queues

-- how many queues a message lacks
abbrev pub count_of : Option Lack → ℕ
count_of None = 0
count_of (Some l) = l.queues

-- what stands after a message passed a queue, and what that answers: the publish, at the last queue that it lacked
abbrev pub passed : FinMap nat_cmp Lack → ℕ → Option Lack → FinMap nat_cmp Lack
passed lacks id None = lacks
passed lacks id (Some l) = if l.queues == 1 then remove lacks id else insert lacks id (record l { queues = l.queues - 1 })

abbrev pub sure_of : Option Lack → Option Sure
sure_of None = None
sure_of (Some l) = if l.queues == 1 then Some (record { client = l.client; number = l.number }) else None

-- what is kept of a message is stored as the tuple of its fields
abbrev pub lack_code : Coded Lack
lack_code =
    code_by (ℕ × (ℕ × ℕ)) (coded× coded_ℕ (coded× coded_ℕ coded_ℕ)) (λ l. (l.client, (l.number, l.queues))) (λ p. record { client = p.0; number = p.1.0; queues = p.1.1 }) (λ _. refl)
