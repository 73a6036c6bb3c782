-- What the writer keeps, as pieces go behind it.
use Rattle.std.specs.Prelude.{ℕ, ◌+◌, ◌≡◌, [], Bool, true, false, List, ◌∷◌, ◌++◌, length, slice_get}
use Rattle.pickle_graph.specs.declared.node.Node.{Node}
use Rattle.pickle_writing.specs.declared.writing.Writing.{Writing}
use Rattle.pickle_writing.specs.declared.depth.TheConstants.{WALK_LIMIT}
use Rattle.pickle_graph.specs.Parts.{parts_in}
use Rattle.pickle_graph.specs.Walks.{has_walk}
use Rattle.pickle_writing.specs.Spelling.{Piece, put_number, put_text, held_piece, parts_piece, piece_of, root_piece}

-- a piece goes behind what is written
abbrev pub with_piece : Writing → Piece → Writing
with_piece w piece = record { text = w.text ++ piece.text; puts = piece.puts }

-- a node is put, if it is shared
abbrev pub after_put : Bool → ℕ → Writing → Writing
after_put false m w = w
after_put true m w = record { text = w.text ++ put_text (length w.puts); puts = m ∷ w.puts }

-- the piece of a node with items
abbrev pub held_at : ℕ → List Node → (ℕ → Bool) → ℕ → List ℕ → Piece
held_at levels ns shared m puts =
    held_piece (shared m) (put_number m puts) m puts (parts_piece (piece_of levels ns shared) (parts_in (slice_get ns m)) puts)

-- this is the piece of a node as root, from which no walk has more edges than the limit
pub record IsRootWritten (ns : List Node) (root : ℕ) (w : Writing) : Type 0 where
  pub short : has_walk (WALK_LIMIT + 1) ns root ≡ false
  pub all : w ≡ with_piece (record { text = []; puts = [] }) (root_piece ns root)
