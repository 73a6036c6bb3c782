-- Pieces of texts.
use Rattle.std.proofs.Common.{◌≡◌, ℕ, zero, suc, ◌+◌, ◌*◌, ◌-◌, ◌^◌, ◌<◌, ◌≤◌, Bool, true, false, List, [], ◌∷◌, ◌++◌, length, Option, Some, None, Ok, Err, refl, arith, sym, ◌∙◌, ap, append_assoc, inl, inr}
use Rattle.std.specs.Prelude.{slice_get}
use Rattle.std.proofs.lemmas.Bool.{lt-ltb, le-ltb}
use Rattle.std.proofs.lemmas.Nat.{pow-add}
use Rattle.std.proofs.Math.Nat.{pow-le-pow_right}
use Rattle.pickle_graph.specs.declared.node.Node.{Node}
use Rattle.pickle_graph.specs.declared.parts.Part.{Part}
use Rattle.pickle_graph.specs.declared.parts.Part.TheVariants.{Byte, Item}
use Rattle.pickle_writing.specs.declared.depth.TheConstants.{WALK_LIMIT}
use Rattle.pickle_writing.specs.declared.error.WriteError.TheVariants as errors
use Rattle.pickle_writing.specs.declared.writing.Writing.{Writing}
use Rattle.pickle_graph.specs.Parts.{parts_of, is_held, held_in}
use Rattle.pickle_writing.specs.Numbers.{number_of, IsTally, is_many, numbered, nodes_of}
use Rattle.pickle_writing.specs.Shared.{is_shared}
use Rattle.pickle_writing.specs.Spelling.{Piece, put_number, fewest, leaf_text, followed, parts_piece, node_piece, piece_of, root_piece, spelling_of}
use Rattle.pickle_writing.specs.Writing.{with_piece, held_at, IsRootWritten}
use Rattle.pickle_graph.specs.Parts.{items_at, items_in}
use Rattle.pickle_graph.specs.Walks.{has_walk}
use Rattle.pickle_graph.specs.WalkLaws.{cases_bool}
use Rattle.pickle_writing.proofs.Counts.{many_shared}
use Rattle.pickle_writing.proofs.Partless.{no_parts}

-- ---- sizes

pub fewest_found : (more size n limit : ℕ) → 0 < more → limit ≡ 2 ^ (8 * size - 1) → n < limit → fewest more size n ≡ size
fewest_found zero size n limit some is less = absurd (omega arith)
fewest_found (suc more) size n limit some is less = let e = lt-ltb n (2 ^ (8 * size - 1)) (omega (arith, is)) in rw e refl

pub fewest_on : (more size n limit : ℕ) → 0 < more → limit ≡ 2 ^ (8 * size - 1) → limit ≤ n → fewest (more - 1) (size + 1) n ≡ fewest more size n
fewest_on zero size n limit some is le = absurd (omega arith)
fewest_on (suc more) size n limit some is le =
    let e = le-ltb n (2 ^ (8 * size - 1)) (omega (arith, is)) in
    let f : suc more - 1 ≡ more = omega arith in
    rw (e, f) refl

pub fewest_end : (more size n : ℕ) → more ≤ 0 → fewest more size n ≡ size
fewest_end zero size n h = refl
fewest_end (suc more) size n h = absurd (omega arith)

-- ---- puts

pub nodes_length : (pairs : List (ℕ × ℕ)) → length (nodes_of pairs) ≡ length pairs
nodes_length [] = refl
nodes_length (pair ∷ pairs) = let e = nodes_length pairs in omega (arith, e)

pub numbered_place : (m : ℕ) (puts : List ℕ) → number_of m (numbered puts) ≡ put_number m puts
numbered_place m [] = refl
numbered_place m (x ∷ puts) = let e = numbered_place m puts in rw e refl

-- ---- what goes behind

pub behind_byte : (w : Writing) (byte : ℕ) (rest : Piece) → with_piece (record w { text = w.text ++ byte ∷ [] }) rest ≡ with_piece w (followed (record { text = byte ∷ []; puts = w.puts; made = 0 }) rest)
behind_byte w byte rest = ap (λ (t : List ℕ). record { text = t; puts = rest.puts }) (append_assoc w.text (byte ∷ []) rest.text)

pub behind_item : (w : Writing) (one rest : Piece) → with_piece (with_piece w one) rest ≡ with_piece w (followed one rest)
behind_item w one rest = ap (λ (t : List ℕ). record { text = t; puts = rest.puts }) (append_assoc w.text one.text rest.text)

-- ---- the same nodes are shared

parts-same : (p q : ℕ → List ℕ → Piece) → ((m : ℕ) (puts : List ℕ) → p m puts ≡ q m puts) → (parts : List Part) (puts : List ℕ) → parts_piece p parts puts ≡ parts_piece q parts puts
parts-same p q h [] puts = refl
parts-same p q h (Byte byte ∷ parts) puts = ap (followed (record { text = byte ∷ []; puts = puts; made = 0 })) (parts-same p q h parts puts)
parts-same p q h (Item item ∷ parts) puts =
    let e = h item puts in
    ap (λ (x : Piece). followed x (parts_piece p parts x.puts)) e ∙ ap (followed (q item puts)) (parts-same p q h parts (q item puts).puts)

node-same : (f g : ℕ → Bool) (p q : ℕ → List ℕ → Piece) → ((m : ℕ) (puts : List ℕ) → p m puts ≡ q m puts) → (m : ℕ) (puts : List ℕ) (found : Option Node) → (held_in found ≡ true → f m ≡ g m) → node_piece f p m puts found ≡ node_piece g q m puts found
node-same f g p q h m puts None same = refl
node-same f g p q h m puts (Some node) same =
    let k = parts-same p q h (parts_of node) puts in
    elim (cases_bool (is_held node)) [
      | inl t ↦ let e = same t in rw (t, e, k) refl
      | inr t ↦ rw t refl
    ]

pub piece_same : (f g : ℕ → Bool) (ns : List Node) → ((m : ℕ) → held_in (slice_get ns m) ≡ true → f m ≡ g m) → (levels m : ℕ) (puts : List ℕ) → piece_of levels ns f m puts ≡ piece_of levels ns g m puts
unfolding piece_of
piece_same f g ns same zero m puts = refl
piece_same f g ns same (suc levels) m puts = node-same f g (piece_of levels ns f) (piece_of levels ns g) (piece_same f g ns same levels) m puts (slice_get ns m) (same m)

-- ---- nodes as roots

pub root_written : (ns : List Node) (root : ℕ) (counts : List (ℕ × ℕ)) (w : Writing) → IsTally ns root counts →
    w ≡ with_piece (record { text = []; puts = [] }) (piece_of (WALK_LIMIT + 1) ns (is_many counts) root []) → IsRootWritten ns root w
root_written ns root counts w h is =
    let same = piece_same (is_many counts) (is_shared ns root) ns (many_shared ns root counts h) (WALK_LIMIT + 1) root [] in
    record { short = h.reach.short; all = is ∙ ap (with_piece (record { text = []; puts = [] })) same }

pub spelled_ok : (ns : List Node) (root : ℕ) (w : Writing) → IsRootWritten ns root w → spelling_of ns root ≡ Ok w.text
spelled_ok ns root w h =
    let text : w.text ≡ (root_piece ns root).text = ap (λ (x : Writing). x.text) h.all in
    let short : has_walk (WALK_LIMIT + 1) ns root ≡ false = h.short in
    rw (short, text) refl

pub spelled_deep : (ns : List Node) (root : ℕ) → has_walk (WALK_LIMIT + 1) ns root ≡ true → spelling_of ns root ≡ Err errors.TooDeep
spelled_deep ns root h = rw h refl

-- ---- a leaf as root

no_walk : (n : ℕ) (ns : List Node) (m : ℕ) → 0 < n → items_at ns m ≡ [] → has_walk n ns m ≡ false
unfolding has_walk
no_walk zero ns m some none = absurd (omega arith)
no_walk (suc n) ns m some none = rw none refl

piece_leaf : (levels : ℕ) (ns : List Node) (shared : ℕ → Bool) (m : ℕ) (puts : List ℕ) (node : Node) → 0 < levels → slice_get ns m ≡ Some node → is_held node ≡ false → (piece_of levels ns shared m puts).text ≡ leaf_text node
unfolding piece_of
piece_leaf zero ns shared m puts node some here leaf = absurd (omega arith)
piece_leaf (suc levels) ns shared m puts node some here leaf = rw (here, leaf) refl

-- a leaf is spelled alike in each graph
pub leaf_spelled : (ns : List Node) (m : ℕ) (node : Node) → slice_get ns m ≡ Some node → is_held node ≡ false → spelling_of ns m ≡ Ok (leaf_text node)
leaf_spelled ns m node here leaf =
    let bare : held_in (slice_get ns m) ≡ false = rw here leaf in
    let none : items_at ns m ≡ [] = ap items_in (no_parts (slice_get ns m) bare) in
    let short = no_walk (WALK_LIMIT + 1) ns m (omega arith) none in
    let text = piece_leaf (WALK_LIMIT + 1) ns (is_shared ns m) m [] node (omega arith) here leaf in
    rw (short, text) refl

-- ---- a node with items

pub piece_held : (levels : ℕ) (ns : List Node) (shared : ℕ → Bool) (m : ℕ) (puts : List ℕ) (node : Node) → 0 < levels → slice_get ns m ≡ Some node → is_held node ≡ true →
    held_at (levels - 1) ns shared m puts ≡ piece_of levels ns shared m puts
unfolding piece_of
piece_held zero ns shared m puts node some here held = absurd (omega arith)
piece_held (suc levels) ns shared m puts node some here held =
    let e : suc levels - 1 ≡ levels = omega arith in
    rw (e, here, held) refl

-- ---- a limit's next

pub limit_next : (size limit : ℕ) → 1 ≤ size → limit ≡ 2 ^ (8 * size - 1) → limit * 256 ≡ 2 ^ (8 * (size + 1) - 1)
limit_next size limit some is =
    let e : 8 * (size + 1) - 1 ≡ 8 * size - 1 + 8 = omega arith in
    let p : 2 ^ (8 * size - 1 + 8) ≡ 2 ^ (8 * size - 1) * 2 ^ 8 = pow-add 2 (8 * size - 1) 8 in
    ap (λ k. k * 256) is ∙ sym p ∙ ap (λ k. 2 ^ k) (sym e)

pub limit_small : (size limit : ℕ) → size ≤ 15 → limit ≡ 2 ^ (8 * size - 1) → limit ≤ 2 ^ 119
limit_small size limit most is =
    let p : 2 ^ (8 * size - 1) ≤ 2 ^ 119 = pow-le-pow_right {n = 2} (omega arith) {i = 8 * size - 1} {j = 119} (omega arith) in
    omega (arith, is, p)
