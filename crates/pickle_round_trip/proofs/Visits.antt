-- The nodes whose texts stand in a piece.
use Rattle.std.proofs.Common.{◌≡◌, ℕ, zero, suc, Bool, true, false, cond, List, [], ◌∷◌, ◌++◌, Option, Some, None, refl, arith, sym, ◌∙◌, ap, append_assoc}
use Rattle.std.specs.Prelude.{slice_get}
use Rattle.std.proofs.lemmas.List.{append-nil}
use Rattle.pickle_graph.specs.declared.node.Node.{Node}
use Rattle.pickle_graph.specs.declared.parts.Part.{Part}
use Rattle.pickle_graph.specs.declared.parts.Part.TheVariants.{Byte, Item}
use Rattle.pickle_graph.specs.Parts.{item_parts, parts_of, is_held, items_in}
use Rattle.pickle_graph.specs.Same.{has}
use Rattle.pickle_writing.specs.Spelling.{Piece, put_number, no_piece, followed, parts_piece, piece_of}
use Rattle.pickle_graph.specs.WalkLaws.{has-left, has-right}
use Rattle.pickle_round_trip.proofs.Building.{piece_is}
use Rattle.pickle_round_trip.proofs.Growing.{front}

abbrev pub visit_parts : (ℕ → List ℕ → List ℕ) → (ℕ → List ℕ → Piece) → List Part → List ℕ → List ℕ
visit_parts visit piece [] puts = []
visit_parts visit piece (Byte byte ∷ parts) puts = visit_parts visit piece parts puts
visit_parts visit piece (Item item ∷ parts) puts = visit item puts ++ visit_parts visit piece parts (piece item puts).puts

abbrev pub visit_held : Option ℕ → ℕ → List ℕ → List ℕ
visit_held (Some k) m more = []
visit_held None m more = m ∷ more

abbrev pub visit_node : (ℕ → List ℕ → List ℕ) → (ℕ → List ℕ → Piece) → ℕ → List ℕ → Option Node → List ℕ
visit_node visit piece m puts None = []
visit_node visit piece m puts (Some x) = cond (is_held x) (visit_held (put_number m puts) m (visit_parts visit piece (parts_of x) puts)) (m ∷ [])

unfoldable pub visits : ℕ → List Node → (ℕ → Bool) → ℕ → List ℕ → List ℕ
visits zero ns shared m puts = []
visits (suc levels) ns shared m puts = visit_node (visits levels ns shared) (piece_of levels ns shared) m puts (slice_get ns m)

-- ---- parts behind parts

pub followed_assoc : (a b c : Piece) → followed a (followed b c) ≡ followed (followed a b) c
followed_assoc a b c = piece_is (followed a (followed b c)) (followed (followed a b) c) (sym (append_assoc a.text b.text c.text)) refl (omega arith)

-- ---- items, perhaps behind a mark, and a byte

abbrev pub mark_parts : Bool → List Part
mark_parts true = Byte 0x28 ∷ []
mark_parts false = []

abbrev pub wrapped : Bool → List ℕ → ℕ → List Part
wrapped marked items byte = mark_parts marked ++ (item_parts items ++ Byte byte ∷ [])

abbrev pub wrapped_text : Bool → ℕ → Piece → Piece
wrapped_text marked byte q = record { text = front marked ++ (q.text ++ byte ∷ []); puts = q.puts; made = q.made }

module _ (go : ℕ → List ℕ → Piece) where
  pub parts-append : (xs ys : List Part) (puts : List ℕ) → parts_piece go (xs ++ ys) puts ≡ followed (parts_piece go xs puts) (parts_piece go ys (parts_piece go xs puts).puts)
  parts-append [] ys puts = piece_is (parts_piece go ys puts) (followed (no_piece puts) (parts_piece go ys puts)) refl refl (omega arith)
  parts-append (Byte byte ∷ xs) ys puts =
      let one : Piece = record { text = byte ∷ []; puts = puts; made = 0 } in
      ap (followed one) (parts-append xs ys puts) ∙ followed_assoc one (parts_piece go xs puts) (parts_piece go ys (parts_piece go xs puts).puts)
  parts-append (Item item ∷ xs) ys puts =
      ap (followed (go item puts)) (parts-append xs ys (go item puts).puts) ∙ followed_assoc (go item puts) (parts_piece go xs (go item puts).puts) (parts_piece go ys (parts_piece go xs (go item puts).puts).puts)

  pub visit-append : (vis : ℕ → List ℕ → List ℕ) (xs ys : List Part) (puts : List ℕ) → visit_parts vis go (xs ++ ys) puts ≡ visit_parts vis go xs puts ++ visit_parts vis go ys (parts_piece go xs puts).puts
  visit-append vis [] ys puts = refl
  visit-append vis (Byte byte ∷ xs) ys puts = visit-append vis xs ys puts
  visit-append vis (Item item ∷ xs) ys puts =
      ap (λ (l : List ℕ). vis item puts ++ l) (visit-append vis xs ys (go item puts).puts) ∙ sym (append_assoc (vis item puts) (visit_parts vis go xs (go item puts).puts) (visit_parts vis go ys (parts_piece go xs (go item puts).puts).puts))

  closed_piece : (items : List ℕ) (byte : ℕ) (puts : List ℕ) → parts_piece go (item_parts items ++ Byte byte ∷ []) puts ≡ wrapped_text false byte (parts_piece go (item_parts items) puts)
  closed_piece items byte puts =
      let q : Piece = parts_piece go (item_parts items) puts in
      parts-append (item_parts items) (Byte byte ∷ []) puts
      ∙ piece_is (followed q (followed (record { text = byte ∷ []; puts = q.puts; made = 0 }) (no_piece q.puts))) (wrapped_text false byte q) refl refl (omega arith)

  pub wrapped_piece : (marked : Bool) (items : List ℕ) (byte : ℕ) (puts : List ℕ) → parts_piece go (wrapped marked items byte) puts ≡ wrapped_text marked byte (parts_piece go (item_parts items) puts)
  wrapped_piece false items byte puts = closed_piece items byte puts
  wrapped_piece true items byte puts =
      let q : Piece = parts_piece go (item_parts items) puts in
      let one : Piece = record { text = 0x28 ∷ []; puts = puts; made = 0 } in
      ap (followed one) (closed_piece items byte puts) ∙ piece_is (followed one (wrapped_text false byte q)) (wrapped_text true byte q) refl refl (omega arith)

  pub wrapped_visits : (vis : ℕ → List ℕ → List ℕ) (marked : Bool) (items : List ℕ) (byte : ℕ) (puts : List ℕ) → visit_parts vis go (wrapped marked items byte) puts ≡ visit_parts vis go (item_parts items) puts
  wrapped_visits vis false items byte puts = visit-append vis (item_parts items) (Byte byte ∷ []) puts ∙ append-nil (visit_parts vis go (item_parts items) puts)
  wrapped_visits vis true items byte puts = visit-append vis (item_parts items) (Byte byte ∷ []) puts ∙ append-nil (visit_parts vis go (item_parts items) puts)

-- ---- items of parts

pub items-append : (xs ys : List Part) → items_in (xs ++ ys) ≡ items_in xs ++ items_in ys
items-append [] ys = refl
items-append (Byte byte ∷ xs) ys = items-append xs ys
items-append (Item item ∷ xs) ys = ap (λ (l : List ℕ). item ∷ l) (items-append xs ys)

pub items-items : (items : List ℕ) → items_in (item_parts items) ≡ items
items-items [] = refl
items-items (item ∷ items) = ap (λ (l : List ℕ). item ∷ l) (items-items items)

pub has-first : (c : ℕ) (items : List ℕ) (rest : List Part) → has c items ≡ true → has c (items_in (item_parts items ++ rest)) ≡ true
has-first c items rest h = ap (has c) (items-append (item_parts items) rest ∙ ap (λ (l : List ℕ). l ++ items_in rest) (items-items items)) ∙ has-left c items (items_in rest) h

pub has-second : (c : ℕ) (xs ys : List Part) → has c (items_in ys) ≡ true → has c (items_in (xs ++ ys)) ≡ true
has-second c xs ys h = ap (has c) (items-append xs ys) ∙ has-right c (items_in xs) (items_in ys) h
