use Rattle.cq_inbox.proofs.Members.{one_more}
use Rattle.cq_inbox.proofs.plain.PlainInbox.new.Goals as goal

pub loop-client-preserved : goal.loop-client-preserved
loop-client-preserved c = one_more c.loop-client._client c.loop-client.slots.items c.push.new.self.items c.in_ok-new.field-0 c.loop-client.invariant c.in_ok-new.ensures c.in_ok-push.ensures.items
