-- What is told of two pickles without their graphs.
use Rattle.std.proofs.Common.{◌≡◌, ℕ, ◌+◌, ◌≤◌, Bool, List, [], ◌++◌, length, drop, Result, Ok, arith, sym, ◌∙◌, ap}
use Rattle.std.specs.Prelude.{slice_get}
use Rattle.std.proofs.lemmas.List.{length-map}
use Rattle.pickle_reading.specs.declared.error.PickleError.{PickleError}
use Rattle.pickle_graph.specs.declared.node.Node.{Node}
use Rattle.pickle_references.specs.declared.pair.PairReferences.{PairReferences}
use Rattle.pickle_references.specs.References.{Finding}
use Rattle.pickle_reading.specs.declared.reading.TheConstants.{NODE_LIMIT}
use Rattle.pickle_references.specs.Sights.{Sight}
use Rattle.pickle_graph.specs.Class.{is_class}
use Rattle.pickle_graph.specs.Graph.{AreNodes}
use Rattle.pickle_reading.specs.Reading.{go_on, begun}
use Rattle.pickle_references.specs.References.{Left, left_with, part_at, with_second, second_of, pair_of, references_in}
use Rattle.pickle_references.specs.Shapes.{is_class_shape}
use Rattle.pickle_references.specs.Shown.{shape_of, shapes_in, sight_of, IsSeen}
use Rattle.pickle_reading.specs.Sound.{MemoBelow, IsSoundState}
use Rattle.pickle_references.proofs.Shown.{begins, class-seen}

-- what a reader begins with
abbrev pub beginning : List Node → List (ℕ × ℕ) → Finding
beginning nodes memo = record { state = begun NODE_LIMIT nodes memo; oids = [] }

-- it is sound where what was left is
pub sound-begun : (nodes : List Node) (memo : List (ℕ × ℕ)) → AreNodes nodes nodes → MemoBelow (length nodes) memo → IsSoundState (begun NODE_LIMIT nodes memo)
sound-begun nodes memo are puts = record { nodes = are; values = tt; puts = puts; few = omega arith }

-- the first reader begins with nothing
pub begins-first : (s : Sight) → s.state.limit ≡ NODE_LIMIT → s.state.nodes ≡ [] → s.state.stack ≡ [] → s.state.memo ≡ [] → s.oids ≡ [] → s ≡ sight_of (beginning [] [])
begins-first s a b c d e = begins s [] [] (let z : NODE_LIMIT ≡ NODE_LIMIT + 0 = omega arith in a ∙ z) b c d e

-- there are as many shapes as nodes, so no more than the limit
pub seen-few : (root next most : ℕ) (new : Sight) (read : Result Left PickleError) → IsSeen root next most new read → length new.state.nodes ≤ most
seen-few root next most new read s =
    let e : length new.state.nodes ≡ length (shapes_in s.finding.state.nodes s.finding.state.nodes) = ap (λ (x : Sight). length x.state.nodes) s.shows in
    let m = length-map s.finding.state.nodes (shape_of s.finding.state.nodes) in
    omega (arith, e, m, s.sound.few, s.limit)

-- the second reader begins with what the first left
pub begins-second : (root next most : ℕ) (one s : Sight) (read : Result Left PickleError) (seen : IsSeen root next most one read) → s.state.limit ≡ NODE_LIMIT + length one.state.nodes → s.state.nodes ≡ one.state.nodes → s.state.stack ≡ [] → s.state.memo ≡ one.state.memo → s.oids ≡ [] →
    s ≡ sight_of (beginning seen.finding.state.nodes seen.finding.state.memo)
begins-second root next most one s read seen a b c d e =
    let f : Finding = seen.finding in
    let many : length one.state.nodes ≡ length f.state.nodes = ap (λ (x : Sight). length x.state.nodes) seen.shows ∙ length-map f.state.nodes (shape_of f.state.nodes) in
    begins s f.state.nodes f.state.memo (a ∙ ap (λ (n : ℕ). NODE_LIMIT + n) many) (b ∙ ap (λ (x : Sight). x.state.nodes) seen.shows) c (d ∙ ap (λ (x : Sight). x.state.memo) seen.shows) e

abbrev told : List ℕ → Bool → ℕ → Result PairReferences PickleError
told oids class behind = Ok (record { oids = oids; is_class = class; behind = behind })

-- what both readers keep tells what the two pickles refer to
pub pair-told : (input : List ℕ) (one two : Sight) (root next most root' next' most' : ℕ) (seen : IsSeen root next most one (part_at [] [] 0 input))
    (then : IsSeen root' next' most' two (part_at seen.finding.state.nodes seen.finding.state.memo next (drop next input))) (oids : List ℕ) (class : Bool) →
    oids ≡ one.oids ++ two.oids → class ≡ is_class_shape (slice_get one.state.nodes root) → references_in (pair_of input) ≡ told oids class next'
pair-told input one two root next most root' next' most' seen then oids class o c =
    let f : Finding = seen.finding in
    let g : Finding = then.finding in
    let all : f.oids ++ g.oids ≡ oids = sym (o ∙ ap (λ (x : Sight). x.oids ++ two.oids) seen.shows ∙ ap (λ (x : Sight). f.oids ++ x.oids) then.shows) in
    let is : is_class (record { nodes = f.state.nodes; root = root }) ≡ class = sym (c ∙ ap (λ (x : Sight). is_class_shape (slice_get x.state.nodes root)) seen.shows ∙ class-seen f.state.nodes root) in
    ap (λ (r : Result Left PickleError). references_in (go_on (second_of input) r)) seen.reads
    ∙ ap (λ (r : Result Left PickleError). references_in (with_second (left_with f root next).0 r)) then.reads
    ∙ ap (λ (l : List ℕ). told l (is_class (record { nodes = f.state.nodes; root = root })) next') all ∙ ap (λ (b : Bool). told oids b next') is
