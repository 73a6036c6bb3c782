use Rattle.std.proofs.Common.{◌≡◌, Err, Result, List, ap, refl}
use Rattle.zeo_messages.specs.declared.message.Message.{Message}
use Rattle.zeo_client.specs.declared.error.ClientError.{ClientError}
use Rattle.zeo_client.proofs.client.ZeoClient.take_piece.Goals as goal

pub returns-in-Err-clause-taken : goal.returns-in-Err-clause-taken
returns-in-Err-clause-taken c = rw (← c.self.view_is) (record {
  payloads = c.feed.result;
  cut = record { come = c.feed.ensures.come; ok = c.feed.ensures.ok; err = c.feed.ensures.err; ever_after = c.feed.ensures.ever_after };
  taken = rw c.in-Err.is (ap (λ (e : ClientError). let r : Result (List Message) ClientError = Err e in r) c.from.ensures, refl);
  same = (refl, refl, refl);
})

pub returns-clause-taken : goal.returns-clause-taken
returns-clause-taken c = rw (← c.self.view_is) (record {
  payloads = c.feed.result;
  cut = record { come = c.feed.ensures.come; ok = c.feed.ensures.ok; err = c.feed.ensures.err; ever_after = c.feed.ensures.ever_after };
  taken = rw (c.in-Ok.is, ← c.as_slice.ensures) c.take_all.ensures.taken;
  same = (refl, refl, refl);
})
