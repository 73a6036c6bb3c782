use Rattle.pack_reach.proofs.Growing.{any_only, found_sound, found_read}
use Rattle.pack_reach.proofs.marker.Marker.read_found.Goals as goal

pub returns-in-Held-clause-only : goal.returns-in-Held-clause-only
returns-in-Held-clause-only g c = any_only c.read_record.result (g.F.Refs.named c.args.refs.now c.as_slice.result.now) c.args.self.now c.read_record.new.self c.args.oid c.in-Held.serial c.read_record.ensures.ok c.read_record.ensures.err

pub returns-in-Held-clause-sound : goal.returns-in-Held-clause-sound
returns-in-Held-clause-sound g c = λ list may.
    found_sound c.read_record.result (g.F.Refs.named c.args.refs.now) list c.args.self.now c.read_record.new.self c.args.oid c.in-Held.serial c.in-Held.bytes c.as_slice.result.now c.in-Held.end c.args.found.now c.in-Held.is c.as_slice.ensures.value may c.read_record.ensures.ok c.read_record.ensures.err

pub returns-in-Held-clause-read : goal.returns-in-Held-clause-read
returns-in-Held-clause-read g c =
    found_read c.read_record.result (g.F.Refs.named c.args.refs.now) c.args.self.now c.read_record.new.self c.args.oid c.in-Held.serial c.in-Held.bytes c.as_slice.result.now c.in-Held.end c.args.found.now c.in-Held.is c.as_slice.ensures.value c.read_record.ensures.ok
