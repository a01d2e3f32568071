-- A client's account after each kind of answer.
use Rattle.std.specs.Prelude.{ℕ, ◌+◌, List, [], ◌∷◌, ◌++◌, Option, None, Some}
use Rattle.cq_journal.specs.declared.reply.Reply.{Reply}
use Rattle.cq_journal.specs.declared.reply.Reply.TheVariants.{Published, Got, Acked, Unknown, Ended}
use Rattle.cq_client.specs.Client.{Account, without}

-- one reply more
abbrev pub after_reply : Reply → Account → Account
after_reply r a = record a { replies = a.replies ++ r ∷ [] }

abbrev pub after_publish : Account → Account
after_publish a = record a { published = a.published + 1; replies = a.replies ++ Published a.published ∷ [] }

abbrev pub after_delivery : ℕ → List ℕ → Account → Account
after_delivery queue body a = record a { opens = a.opens ++ record { delivery = a.delivered; queue = queue } ∷ []; delivered = a.delivered + 1; replies = a.replies ++ Got a.delivered queue body ∷ [] }

-- after an acknowledgement of a delivery that came from this queue, or wasn't open
abbrev pub after_ack : ℕ → Option ℕ → Account → Account
after_ack delivery None a = after_reply (Unknown delivery) a
after_ack delivery (Some queue) a = record a { opens = without delivery a.opens; replies = a.replies ++ Acked delivery ∷ [] }

abbrev pub after_end : Account → Account
after_end a = record a { opens = []; replies = a.replies ++ Ended ∷ [] }
