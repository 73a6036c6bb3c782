use Rattle.std.proofs.Common.{◌∙◌}
use Rattle.fs_reading.proofs.Revisions.{nothing_below, known_below, found_there}
use Rattle.fs_reading.proofs.lookups.read_before.Goals as goal

pub returns-in_default-clause-found : goal.returns-in_default-clause-found
returns-in_default-clause-found g c = λ told reached oid begins are.
    nothing_below _ reached oid c.args.front c.args.places.now c.last_before.result begins are c.last_before.ensures c.in_default.is

pub read_content_before-requires-clause-place : goal.read_content_before-requires-clause-place
read_content_before-requires-clause-place g c = λ told.
    let file = c.requires.places told in
    record {
      reached = file.reached;
      oid = file.oid;
      begins = file.begins;
      is = known_below _ file.reached file.oid c.args.front c.args.places.now c.last_before.result c.in-Some.place file.begins file.are c.last_before.ensures c.in-Some.is;
      short = file.short;
    }

pub returns-clause-found : goal.returns-clause-found
returns-clause-found g c = λ told reached oid begins are.
    let known = known_below _ reached oid c.args.front c.args.places.now c.last_before.result c.in-Some.place begins are c.last_before.ensures c.in-Some.is in
    c.found_with.ensures
    ∙ found_there _ reached oid c.args.front c.args.places.now c.last_before.result c.in-Some.place c.in_ok-content.content c.serial_from-end.result begins are c.last_before.ensures c.in-Some.is
    (c.in_ok-content.ensures.content told reached oid begins known) c.serial_from-end.ensures
