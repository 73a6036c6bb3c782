-- The second reader begins with what the first left.
use Rattle.std.proofs.Common.{[], ◌∙◌, ap, ◌++◌, List, ℕ}
use Rattle.pickle_reading.specs.declared.reading.TheConstants.{NODE_LIMIT}
use Rattle.pickle_references.proofs.TwoPickles.{beginning, sound-begun, begins-first, seen-few, begins-second, pair-told}
use Rattle.pickle_references.proofs.pair.references_of_pair.Goals as goal

pub next_sight-second-requires : goal.next_sight-second-requires
next_sight-second-requires c =
    let s = c.new-first.ensures in
    let seen = c.in_ok-stop.ensures.seen (beginning [] []) (begins-first c.new-first.result s.limit s.nodes s.stack s.memo s.oids) (sound-begun [] [] tt tt) in
    record { few = seen-few c.in_ok-stop.stop.0 c.in_ok-stop.stop.1 NODE_LIMIT c.look_to_stop.new.sight _ seen }

pub returns-clause-told : goal.returns-clause-told
returns-clause-told c =
    let s = c.new-first.ensures in
    let seen = c.in_ok-stop.ensures.seen (beginning [] []) (begins-first c.new-first.result s.limit s.nodes s.stack s.memo s.oids) (sound-begun [] [] tt tt) in
    let n = c.next_sight-second.ensures in
    let one = c.look_to_stop.new.sight in
    let two = c.look_to_stop-2.new.sight in
    let f = seen.finding in
    let start = begins-second c.in_ok-stop.stop.0 c.in_ok-stop.stop.1 NODE_LIMIT one c.next_sight-second.result.0 _ seen n.limit n.nodes n.stack n.memo n.oids in
    let then = c.in_ok-end.ensures.seen (beginning f.state.nodes f.state.memo) start (sound-begun f.state.nodes f.state.memo seen.sound.nodes seen.sound.puts) in
    let all = c.from_vec.ensures ∙ c.in_ok-extend_from_slice.ensures.items ∙ ap (λ (l : List ℕ). c.into_vec-all.result.items ++ l) c.as_slice.ensures ∙ ap (λ (l : List ℕ). l ++ two.oids) (c.into_vec-all.ensures ∙ n.told) in
    pair-told c.args.input.now one two c.in_ok-stop.stop.0 c.in_ok-stop.stop.1 NODE_LIMIT c.in_ok-end.end.0 c.in_ok-end.end.1 _ seen then c.from_vec.result c.is_class_shape-is_class.result all c.is_class_shape-is_class.ensures
