-- Graphs that are the same are spelled alike.
use Rattle.std.proofs.Common.{◌≡◌, ℕ, zero, suc, ◌+◌, Bool, true, false, cond, List, [], ◌∷◌, ◌++◌, length, Option, Some, None, Ok, Err, refl, ◌∙◌, ap}
use Rattle.pickle_graph.specs.declared.node.Node.{Node}
use Rattle.pickle_graph.specs.declared.parts.Part.{Part}
use Rattle.pickle_graph.specs.declared.parts.Part.TheVariants.{Byte, Item}
use Rattle.pickle_writing.specs.declared.depth.TheConstants.{WALK_LIMIT}
use Rattle.pickle_writing.specs.declared.error.WriteError.TheVariants as errors
use Rattle.pickle_graph.specs.Graph.{Graph}
use Rattle.pickle_graph.specs.Parts.{parts_of, is_held}
use Rattle.pickle_graph.specs.Same.{HasOrigin, HaveOrigins, AllCopies, StandOnce, IsSame, is_held_at, holds_items}
use Rattle.pickle_writing.specs.Shared.{is_shared}
use Rattle.pickle_writing.specs.Spelling.{Piece, parts_piece, put_number, put_behind, held_piece, node_piece, piece_of, spelling_of, put_text, get_text}
use Rattle.bucket_state.proofs.Parts.{PartsAlike, Standing, standing}
use Rattle.bucket_state.proofs.Ways.{same_test, walks_alike}
use Rattle.bucket_state.proofs.Sharing.{shared_alike}

-- two pieces: of one text, with as many nodes, and with puts that stand for each other
pub record PiecesAlike (origin : List ℕ) (p q : Piece) : Type 0 where
  pub text : p.text ≡ q.text
  pub puts : HaveOrigins origin p.puts q.puts
  pub made : p.made ≡ q.made

as_long : (origin xs ys : List ℕ) → HaveOrigins origin xs ys → length xs ≡ length ys
as_long origin [] [] h = refl
as_long origin (x ∷ xs) (y ∷ ys) h = ap suc (as_long origin xs ys h.1)
as_long origin [] (y ∷ ys) h = absurd h
as_long origin (x ∷ xs) [] h = absurd h

numbers_alike : (ns : List Node) (origin : List ℕ) (c d : ℕ) (xs ys : List ℕ) → StandOnce ns origin → HasOrigin origin c d → is_held_at ns d ≡ true → HaveOrigins origin xs ys → put_number c xs ≡ put_number d ys
numbers_alike ns origin c d [] [] once g held h = refl
numbers_alike ns origin c d (x ∷ xs) (y ∷ ys) once g held h =
    let one = same_test ns origin x y c d once h.0 g held in
    let size = as_long origin xs ys h.1 in
    let rest = numbers_alike ns origin c d xs ys once g held h.1 in
    λ k. cond (one k) (Some (size k)) (rest k)
numbers_alike ns origin c d [] (y ∷ ys) once g held h = absurd h
numbers_alike ns origin c d (x ∷ xs) [] once g held h = absurd h

parts_piece_alike : (origin : List ℕ) (f h : ℕ → List ℕ → Piece) → ((x y : ℕ) (xs ys : List ℕ) → HasOrigin origin x y → HaveOrigins origin xs ys → PiecesAlike origin (f x xs) (h y ys)) → (ps qs : List Part) (xs ys : List ℕ) → PartsAlike origin ps qs → HaveOrigins origin xs ys → PiecesAlike origin (parts_piece f ps xs) (parts_piece h qs ys)
parts_piece_alike origin f h each [] [] xs ys alike puts = record { text = refl; puts = puts; made = refl }
parts_piece_alike origin f h each (Byte a ∷ ps) (Byte b ∷ qs) xs ys alike puts =
    let rest = parts_piece_alike origin f h each ps qs xs ys alike.1 puts in
    record { text = λ k. (alike.0 k ∷ []) ++ rest.text k; puts = rest.puts; made = λ k. 0 + rest.made k }
parts_piece_alike origin f h each (Item x ∷ ps) (Item y ∷ qs) xs ys alike puts =
    let one = each x y xs ys alike.0 puts in
    let rest = parts_piece_alike origin f h each ps qs (f x xs).puts (h y ys).puts alike.1 one.puts in
    record { text = λ k. one.text k ++ rest.text k; puts = rest.puts; made = λ k. one.made k + rest.made k }
parts_piece_alike origin f h each [] (Byte b ∷ qs) xs ys alike puts = absurd alike
parts_piece_alike origin f h each [] (Item b ∷ qs) xs ys alike puts = absurd alike
parts_piece_alike origin f h each (Byte a ∷ ps) [] xs ys alike puts = absurd alike
parts_piece_alike origin f h each (Item a ∷ ps) [] xs ys alike puts = absurd alike
parts_piece_alike origin f h each (Byte a ∷ ps) (Item b ∷ qs) xs ys alike puts = absurd alike
parts_piece_alike origin f h each (Item a ∷ ps) (Byte b ∷ qs) xs ys alike puts = absurd alike

put_alike : (origin : List ℕ) (s t : Bool) (c d : ℕ) (p q : Piece) → s ≡ t → HasOrigin origin c d → PiecesAlike origin p q → PiecesAlike origin (put_behind s c p) (put_behind t d q)
put_alike origin false false c d p q e g h = h
put_alike origin true true c d p q e g h =
    let size = as_long origin p.puts q.puts h.puts in
    record { text = λ k. h.text k ++ put_text (size k); puts = (g, h.puts); made = h.made }
put_alike origin false true c d p q e g h = cc
put_alike origin true false c d p q e g h = cc

held_alike : (origin : List ℕ) (s t : Bool) (o u : Option ℕ) (c d : ℕ) (xs ys : List ℕ) (p q : Piece) → s ≡ t → o ≡ u → HasOrigin origin c d → HaveOrigins origin xs ys → PiecesAlike origin p q → PiecesAlike origin (held_piece s o c xs p) (held_piece t u d ys q)
held_alike origin s t (Some k) (Some m) c d xs ys p q e n g puts h = let same : k ≡ m = cc in record { text = ap get_text same; puts = puts; made = refl }
held_alike origin s t None None c d xs ys p q e n g puts h =
    put_alike origin s t c d (record p { made = p.made + 1 }) (record q { made = q.made + 1 }) e g (record { text = h.text; puts = h.puts; made = λ k. h.made k + 1 })
held_alike origin s t (Some k) None c d xs ys p q e n g puts h = cc
held_alike origin s t None (Some k) c d xs ys p q e n g puts h = cc

pieces_alike : (levels : ℕ) (origin : List ℕ) (ns cs : List Node) (a b : ℕ) → AllCopies origin ns cs origin → StandOnce ns origin → HasOrigin origin a b → (c d : ℕ) (xs ys : List ℕ) → HasOrigin origin c d → HaveOrigins origin xs ys → PiecesAlike origin (piece_of levels cs (is_shared cs a) c xs) (piece_of levels ns (is_shared ns b) d ys)
unfolding piece_of
pieces_alike zero origin ns cs a b all once root c d xs ys g puts = record { text = refl; puts = puts; made = refl }
pieces_alike (suc levels) origin ns cs a b all once root c d xs ys g puts =
    let s = standing origin ns cs c d all g in
    let f : ℕ → List ℕ → Piece = piece_of levels cs (is_shared cs a) in
    let h : ℕ → List ℕ → Piece = piece_of levels ns (is_shared ns b) in
    let within = parts_piece_alike origin f h (λ x y us vs k l. pieces_alike levels origin ns cs a b all once root x y us vs k l) (parts_of s.node) (parts_of s.old) xs ys s.alike.parts puts in
    let placed : PiecesAlike origin (node_piece (is_shared cs a) f c xs (Some s.node)) (node_piece (is_shared ns b) h d ys (Some s.old)) =
    by_held origin ns cs a b all once root c d xs ys g puts s f h within (is_held s.old) refl in
    rw (s.here, s.there) placed
  where
    by_held : (origin : List ℕ) (ns cs : List Node) (a b : ℕ) → AllCopies origin ns cs origin → StandOnce ns origin → HasOrigin origin a b → (c d : ℕ) (xs ys : List ℕ) → HasOrigin origin c d → HaveOrigins origin xs ys → (s : Standing origin ns cs c d) (f h : ℕ → List ℕ → Piece) → PiecesAlike origin (parts_piece f (parts_of s.node) xs) (parts_piece h (parts_of s.old) ys) → (t : Bool) → is_held s.old ≡ t → PiecesAlike origin (node_piece (is_shared cs a) f c xs (Some s.node)) (node_piece (is_shared ns b) h d ys (Some s.old))
    by_held origin ns cs a b all once root c d xs ys g puts s f h within true is =
        let held : is_held_at ns d ≡ true = ap holds_items s.there ∙ is in
        let shared = shared_alike origin ns cs a b c d all once root g held in
        let number = numbers_alike ns origin c d xs ys once g held puts in
        rw (s.alike.held, is) (held_alike origin (is_shared cs a c) (is_shared ns b d) (put_number c xs) (put_number d ys) c d xs ys (parts_piece f (parts_of s.node) xs) (parts_piece h (parts_of s.old) ys) shared number g puts within)
    by_held origin ns cs a b all once root c d xs ys g puts s f h within false is =
        rw (s.alike.held, is) (record { text = s.alike.leaf is; puts = puts; made = refl })

-- a copy is spelled as the graph
pub same_spelled : (g copy : Graph) → IsSame g copy → spelling_of copy.nodes copy.root ≡ spelling_of g.nodes g.root
same_spelled g copy same =
    let deep = walks_alike (WALK_LIMIT + 1) same.origin g.nodes copy.nodes copy.root g.root same.each same.root in
    let text = (pieces_alike (WALK_LIMIT + 1) same.origin g.nodes copy.nodes copy.root g.root same.each same.once same.root copy.root g.root [] [] same.root tt).text in
    λ k. cond (deep k) (Err errors.TooDeep) (Ok (text k))
