-- Steps of printing.
use Rattle.std.proofs.Common.{◌≡◌, ℕ, zero, suc, ◌-◌, ◌<◌, List, [], ◌∷◌, ◌++◌, true, false, Option, Some, None, is_some, refl, arith}
use Rattle.std.specs.Prelude.{slice_get}
use Rattle.pickle_graph.specs.declared.node.Node.{Node}
use Rattle.pickle_writing.specs.Numbers.{number_of}
use Rattle.pickle_writing.specs.Spelling.{put_number}
use Rattle.pickle_graph.specs.declared.node.Act.{Act}
use Rattle.pickle_graph.specs.declared.node.Act.TheVariants.{Append, Set, Build}
use Rattle.zb_literals.specs.declared.printing.Printing.{Printing}
use Rattle.zb_literals.specs.Printing.{Printed, only, text_behind, bytes_parts, short_print, reference_parts, act_marks, leaf_print, literal_parts, parts_print, marked_print, leaf_or_item, print_of, behind_print}

pub acts_step : (act : Act) (acts : List Act) → act_marks (act ∷ acts) ≡ act_marks (act ∷ []) ++ act_marks acts
acts_step (Append v) acts = refl
acts_step (Set k v) acts = refl
acts_step (Build v) acts = refl

-- bytes alone are printed as they are
bytes_print : (piece : ℕ → List (ℕ × ℕ) → Printed) (bytes : List ℕ) (stood : List (ℕ × ℕ)) → parts_print piece (bytes_parts bytes) stood ≡ only bytes stood
bytes_print piece [] stood = refl
bytes_print piece (b ∷ bytes) stood = rw (bytes_print piece bytes stood) refl

-- a text that is taken out, to which something is put, and which is put back
pub text_after : (text before out new : List ℕ) (more : Option (List ℕ)) → before ≡ text → out ≡ text_behind before more → new ≡ out → new ≡ text_behind text more
text_after text before out new more taken put back = rw (back, put, taken) refl

-- another text, and the same put nodes
abbrev pub with_text : Printing → List ℕ → Printing
with_text w text = record { text = text; stood = w.stood }

-- a short form at the end is the reference, printed
pub short_is : (piece : ℕ → List (ℕ × ℕ) → Printed) (short : Option (List ℕ)) (id : ℕ) (w : Printing) (new : List ℕ) → true ≡ is_some short → new ≡ text_behind w.text (short_print short)
    → with_text w new ≡ behind_print w (parts_print piece (reference_parts short id) w.stood)
short_is piece None id w new is e = absurd cc
short_is piece (Some short) id w new is e = rw (e, bytes_print piece short w.stood) refl

-- a leaf's literal at the end is the node, printed
pub leaf_is : (levels : ℕ) (ns : List Node) (puts : List ℕ) (m : ℕ) (x : Node) (w : Printing) (new : List ℕ) → 0 < levels → slice_get ns m ≡ Some x → true ≡ is_some (leaf_print x) → new ≡ text_behind w.text (leaf_print x)
    → with_text w new ≡ behind_print w (print_of levels ns puts m w.stood)
unfolding print_of
leaf_is zero ns puts m x w new some here is e = absurd (omega arith)
leaf_is (suc levels) ns puts m x w new some here is e = rw here (by_leaf (leaf_print x) (marked_print (number_of m w.stood) (put_number m puts) m w.stood (parts_print (print_of levels ns puts) (literal_parts ns puts x))) is e)
  where
    by_leaf : (leaf : Option (List ℕ)) (other : Printed) → true ≡ is_some leaf → new ≡ text_behind w.text leaf → with_text w new ≡ behind_print w (leaf_or_item leaf w.stood other)
    by_leaf None other is e = absurd cc
    by_leaf (Some text) other is e = rw e refl

-- without one the text stands as it was
pub bare_is : (x : Node) (w : Printing) (new : List ℕ) → false ≡ is_some (leaf_print x) → new ≡ text_behind w.text (leaf_print x) → (leaf_print x ≡ None) × (with_text w new ≡ w)
bare_is x w new is e = by_leaf (leaf_print x) is e
  where
    by_leaf : (leaf : Option (List ℕ)) → false ≡ is_some leaf → new ≡ text_behind w.text leaf → (leaf ≡ None) × (with_text w new ≡ w)
    by_leaf None is e = (refl, rw e refl)
    by_leaf (Some text) is e = absurd cc

-- a node that may have items is printed by its parts
pub marked_is : (levels : ℕ) (ns : List Node) (puts : List ℕ) (m : ℕ) (stood : List (ℕ × ℕ)) (x : Node) → 0 < levels → slice_get ns m ≡ Some x → leaf_print x ≡ None
    → marked_print (number_of m stood) (put_number m puts) m stood (parts_print (print_of (levels - 1) ns puts) (literal_parts ns puts x)) ≡ print_of levels ns puts m stood
unfolding print_of
marked_is zero ns puts m stood x some here bare = absurd (omega arith)
marked_is (suc levels) ns puts m stood x some here bare =
    let e : suc levels - 1 ≡ levels = omega arith in
    rw (e, here, bare) refl
