use Rattle.std.proofs.Common.{ℕ, ◌<◌, ◌++◌, arith, ap, length, take}
use Rattle.zeo_session.proofs.Links.{came_end, came_fault, came_more, came_no_more, came_payloads, kept_none}
use Rattle.zeo_session.proofs.serving.next_payloads.Goals as goal

pub returns-in-Err-clause-come : goal.returns-in-Err-clause-come
returns-in-Err-clause-come g c came given come =
    let front = c.reading.invariant.read came given come in
    came_no_more came given _ _ _ c.reading.frames c.feed.new.self front c.in-Err.error c.end_of.result (c.in-Err.ensures.come (came ++ front.more) given front.come.0) c.in-Err.ensures.err
    c.end_of.ensures.memory c.end_of.ensures.long

pub returns-then-not-is_empty-clause-come : goal.returns-then-not-is_empty-clause-come
returns-then-not-is_empty-clause-come g c came given come =
    let front = c.reading.invariant.read came given come in
    came_payloads came given _ _ _ c.reading.frames c.feed.new.self front c.in-Ok.payloads (c.in-Ok.ensures.come (came ++ front.more) given front.come.0) c.in-Ok.ensures.ok

pub returns-in_default-clause-come : goal.returns-in_default-clause-come
returns-in_default-clause-come g c came given come =
    let front = c.reading.invariant.read came given come in
    came_fault came given _ _ _ c.reading.frames c.feed.new.self front c.in-Ok.payloads (c.is_empty.ensures.0 c.if-not-is_empty.false)
    (c.in-Ok.ensures.come (came ++ front.more) given front.come.0) c.in-Ok.ensures.ok _ (kept_none _ _ c.in_default.ensures.bytes)

pub returns-then-more-eq0-clause-come : goal.returns-then-more-eq0-clause-come
returns-then-more-eq0-clause-come g c came given come =
    let front = c.reading.invariant.read came given come in
    let some : 0 < length c.read.new.out = omega (arith, c.reading.invariant.some, c.read.auto.out) in
    let read = c.in-Ok-read.ensures.bytes in
    came_end came given _ _ _ c.reading.frames c.feed.new.self front c.in-Ok.payloads (c.is_empty.ensures.0 c.if-not-is_empty.false)
    (c.in-Ok.ensures.come (came ++ front.more) given front.come.0) c.in-Ok.ensures.ok _ (take c.in-Ok-read.more c.read.new.out) (ap (λ (n : ℕ). take n c.read.new.out) c.if-more-eq0.true) read.0
    (read.1 c.if-more-eq0.true some)

pub reading-preserved : goal.reading-preserved
reading-preserved g c = record {
  can = tt;
  finite = tt;
  counted = omega (arith, c.reading.invariant.counted, c.read.ensures.counted);
  within = omega (arith, c.in-Ok-read.ensures.fits);
  some = omega (arith, c.reading.invariant.some, c.read.auto.out);
  read = λ came given come.
      let front = c.reading.invariant.read came given come in
      came_more came given _ _ _ c.reading.frames c.feed.new.self front c.in-Ok.payloads (c.is_empty.ensures.0 c.if-not-is_empty.false)
      (c.in-Ok.ensures.come (came ++ front.more) given front.come.0) c.in-Ok.ensures.ok _ (take c.in-Ok-read.more c.read.new.out) c.in-Ok-read.ensures.bytes.0;
}
