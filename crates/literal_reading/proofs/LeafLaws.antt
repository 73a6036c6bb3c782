-- The laws of values without items.
use Rattle.std.proofs.Common.{◌≡◌, ℕ, zero, suc, ◌^◌, ◌<◌, ◌≢◌, Bool, true, false, cond, eqb, ltb, List, [], ◌∷◌, ◌++◌, length, Option, Some, None, refl, sym, ap, subst, ◌∙◌, append_assoc, append-nil, arith, flat_map}
use Rattle.std.specs.Prelude.{codes}
use Rattle.std.specs.List.{AllByRecursion}
use Rattle.std.specs.Char.{encode_utf8}
use Rattle.std.specs.Str.{chars, is_utf8}
use Rattle.std.proofs.Math.Utf8.{scalar, scalars, encodes}
use Rattle.std.proofs.lemmas.Bool.{eqb-true, eqb-false, ne_eqb, and_parts, ltb-true, lt-ltb}
use Rattle.std.proofs.lemmas.Option.{same_Some, cond_some}
use Rattle.std.proofs.lemmas.List.{length-append}
use Rattle.std.proofs.lemmas.Str.{chars-encodes, encodes-chars, scalars-chars, is_utf8-from_IsUtf8, IsUtf8-from_is_utf8}
use Rattle.zb_ids.specs.Hex.{◌>>=◌}
use Rattle.zb_ids.specs.HexLaws.{from_bind}
use Rattle.pickle_ops.specs.Grammar.{IsGlobalLine, is_one_line}
use Rattle.pickle_ops.specs.Fits.{IsShortText}
use Rattle.pickle_graph.specs.declared.node.Node.{Node}
use Rattle.pickle_graph.specs.declared.node.Node.TheVariants as kinds
use Rattle.zb_literals.specs.Texts.{leaf_literal, global_text, character_text, is_name_byte, name_byte_text}
use Rattle.zb_literals.specs.Values.{IsLeaf, AreAllSmall}
use Rattle.literal_reading.specs.Reading.{if_some, rest_behind, until_at, character_at, name_byte_at, characters_at, name_bytes_at, name_line_at, text_at, global_at, counted_at, held_as, is_wide_size, is_float_size, is_bytes_size, is_old_size, constant_at, bytes_kind_at, number_leaf_at, begins_number, leaf_at}
use Rattle.literal_reading.proofs.Steps.{from_if, behind_takes, behind_again}
use Rattle.literal_reading.proofs.CharacterLaws.{TakesOne, IsScalarCode, character_takes, character_again, IsNameCode, name_byte_takes, name_byte_again, character_stops, character_some, name_stops, name_some}
use Rattle.literal_reading.proofs.NumberLaws.{Closed, counted_takes, counted_again, number_takes, number_again, number_begins}

-- ---- characters up to one at which they stop

pub record TakesUntil (spelled held : ℕ → List ℕ) (Is : ℕ → Type 0) (stop : ℕ) (front bytes : List ℕ) (read : List ℕ × List ℕ) : Type 0 where
  pub each : List ℕ
  pub are : AllByRecursion Is each
  pub text : bytes ≡ flat_map spelled each ++ stop ∷ read.1
  pub held_is : read.0 ≡ front ++ flat_map held each

abbrev pub OneTakes : (ℕ → List ℕ) → (ℕ → Type 0) → (List ℕ → Option (ℕ × List ℕ)) → Type 0
OneTakes spelled Is one = (bytes : List ℕ) (read : ℕ × List ℕ) → one bytes ≡ Some read → TakesOne spelled Is bytes read

one_then : (spelled held : ℕ → List ℕ) (Is : ℕ → Type 0) (stop : ℕ) (front bytes : List ℕ) (one : ℕ × List ℕ) (read : List ℕ × List ℕ)
    → TakesOne spelled Is bytes one → TakesUntil spelled held Is stop (front ++ held one.0) one.1 read → TakesUntil spelled held Is stop front bytes read
one_then spelled held Is stop front bytes one read t m = record {
  each = one.0 ∷ m.each;
  are = (t.is, m.are);
  text = t.text ∙ ap (λ (x : List ℕ). spelled one.0 ++ x) m.text ∙ sym (append_assoc (spelled one.0) (flat_map spelled m.each) (stop ∷ read.1));
  held_is = m.held_is ∙ append_assoc front (held one.0) (flat_map held m.each);
}

until_takes : (spelled held : ℕ → List ℕ) (Is : ℕ → Type 0) (stop : ℕ) (one : List ℕ → Option (ℕ × List ℕ)) → OneTakes spelled Is one
    → (n : ℕ) (front bytes : List ℕ) (read : List ℕ × List ℕ) → until_at stop held one n front bytes ≡ Some read → TakesUntil spelled held Is stop front bytes read
until_takes spelled held Is stop one takes zero front bytes read e = absurd cc
until_takes spelled held Is stop one takes (suc n) front bytes read e =
    from_if (rest_behind (stop ∷ []) bytes) (λ rest. Some (front, rest)) (one bytes >>= λ c. until_at stop held one n (front ++ held c.0) c.1) read e
    (λ rest at is. subst (TakesUntil spelled held Is stop front bytes) (same_Some (front, rest) read is)
    (record { each = []; are = tt; text = behind_takes (stop ∷ []) bytes rest at; held_is = sym (append-nil front) }))
    (λ e1. from_bind (one bytes) (λ c. until_at stop held one n (front ++ held c.0) c.1) read e1 (λ c at e2.
    one_then spelled held Is stop front bytes c read (takes bytes c at) (until_takes spelled held Is stop one takes n (front ++ held c.0) c.1 read e2)))

-- a character is read again, and is none at which they stop
pub record OneAgain (spelled : ℕ → List ℕ) (one : List ℕ → Option (ℕ × List ℕ)) (stop c : ℕ) : Type 0 where
  pub again : (rest : List ℕ) → one (spelled c ++ rest) ≡ Some (c, rest)
  pub apart : (rest : List ℕ) → rest_behind (stop ∷ []) (spelled c ++ rest) ≡ None
  pub some : 0 < length (spelled c)

until_again : (spelled held : ℕ → List ℕ) (stop : ℕ) (one : List ℕ → Option (ℕ × List ℕ)) (cs : List ℕ) → AllByRecursion (OneAgain spelled one stop) cs
    → (n : ℕ) (front rest : List ℕ) → length (flat_map spelled cs ++ stop ∷ rest) < n
    → until_at stop held one n front (flat_map spelled cs ++ stop ∷ rest) ≡ Some (front ++ flat_map held cs, rest)
until_again spelled held stop one cs h zero front rest k = absurd (omega (arith, k))
until_again spelled held stop one [] h (suc n) front rest k = rw (behind_again (stop ∷ []) rest) (ap (λ (x : List ℕ). Some (x, rest)) (sym (append-nil front)))
until_again spelled held stop one (c ∷ cs) h (suc n) front rest k =
    let whole = append_assoc (spelled c) (flat_map spelled cs) (stop ∷ rest) in
    let short : length (flat_map spelled cs ++ stop ∷ rest) < n = omega (arith, k, h.0.some, ap length whole, length-append (spelled c) (flat_map spelled cs ++ stop ∷ rest)) in
    let later = until_again spelled held stop one cs h.1 n (front ++ held c) rest short in
    ap (until_at stop held one (suc n) front) whole
    ∙ rw (h.0.apart (flat_map spelled cs ++ stop ∷ rest), h.0.again (flat_map spelled cs ++ stop ∷ rest)) (later ∙ ap (λ (x : List ℕ). Some (x, rest)) (append_assoc front (held c) (flat_map held cs)))

-- ---- texts

character_once : (c : ℕ) → scalar c ≡ true → OneAgain character_text character_at 34 c
character_once c s = record { again = λ rest. character_again c rest s; apart = λ rest. character_stops c rest s; some = character_some c s }

name_once : (stop b : ℕ) → is_name_byte stop ≡ false → stop ≢ 92 → IsNameCode b → OneAgain name_byte_text name_byte_at stop b
name_once stop b h k is = record { again = λ rest. name_byte_again b rest is; apart = λ rest. name_stops stop b rest h k; some = name_some b }

held_encodes : (cs : List ℕ) → flat_map encode_utf8 cs ≡ encodes cs
held_encodes [] = refl
held_encodes (c ∷ cs) = ap (λ (x : List ℕ). encode_utf8 c ++ x) (held_encodes cs)

held_same : (bs : List ℕ) → flat_map (λ b. b ∷ []) bs ≡ bs
held_same [] = refl
held_same (b ∷ bs) = ap (λ (x : List ℕ). b ∷ x) (held_same bs)

all_scalars : (cs : List ℕ) → AllByRecursion IsScalarCode cs → scalars cs ≡ true
all_scalars [] h = refl
all_scalars (c ∷ cs) h =
    let is : scalar c ≡ true = h.0 in
    rw is (all_scalars cs h.1)

each_scalar : (cs : List ℕ) → scalars cs ≡ true → AllByRecursion (OneAgain character_text character_at 34) cs
each_scalar [] h = tt
each_scalar (c ∷ cs) h = let p = and_parts (scalar c) (scalars cs) h in (character_once c p.0, each_scalar cs p.1)

-- a node, and what its kind says of it
pub record TakesLeaf (bytes : List ℕ) (read : Node × List ℕ) : Type 0 where
  pub is : IsLeaf read.0
  pub text : bytes ≡ leaf_literal read.0 ++ read.1

text_takes : (bytes : List ℕ) (read : Node × List ℕ) → text_at bytes ≡ Some read → TakesLeaf (34 ∷ bytes) read
unfolding text_at characters_at
text_takes bytes read e =
    from_bind (until_at 34 encode_utf8 character_at (suc (length bytes)) [] bytes) _ read e (λ held at e1.
    let p = cond_some (ltb (length held.0) (2 ^ 32)) (kinds.Text held.0, held.1) read e1 in
    let t = until_takes character_text encode_utf8 IsScalarCode 34 character_at character_takes (suc (length bytes)) [] bytes held at in
    let are = all_scalars t.each t.are in
    let text_is : held.0 ≡ encodes t.each = t.held_is ∙ held_encodes t.each in
    let utf8 : is_utf8 held.0 ≡ true = ap is_utf8 text_is ∙ is_utf8-from_IsUtf8 (encodes t.each) (t.each, (are, refl)) in
    let chars_are : chars held.0 ≡ t.each = ap chars text_is ∙ chars-encodes t.each are in
    subst (TakesLeaf (34 ∷ bytes)) p.1
    (record {
      is = record { utf8 = utf8; short = ltb-true _ _ p.0 };
      text = ap (λ (x : List ℕ). 34 ∷ x) (t.text ∙ ap (λ (cs : List ℕ). flat_map character_text cs ++ 34 ∷ held.1) (sym chars_are) ∙ sym (append_assoc (flat_map character_text (chars held.0)) (34 ∷ []) held.1));
    }))

text_again : (text rest : List ℕ) → IsShortText text → text_at (flat_map character_text (chars text) ++ 34 ∷ rest) ≡ Some (kinds.Text text, rest)
unfolding text_at characters_at
text_again text rest h =
    let utf8 = IsUtf8-from_is_utf8 text h.utf8 in
    let read = until_again character_text encode_utf8 34 character_at (chars text) (each_scalar (chars text) (scalars-chars text utf8))
    (suc (length (flat_map character_text (chars text) ++ 34 ∷ rest))) [] rest (omega arith) in
    let text_is : flat_map encode_utf8 (chars text) ≡ text = held_encodes (chars text) ∙ encodes-chars text utf8 in
    rw (read, text_is, lt-ltb (length text) (2 ^ 32) h.short) refl

-- ---- globals

one_line : (bs : List ℕ) → AllByRecursion IsNameCode bs → is_one_line bs ≡ true
one_line [] h = refl
one_line (b ∷ bs) h = rw (ne_eqb b 10 h.0.1, one_line bs h.1) refl

name_bytes : (bs : List ℕ) → AllByRecursion IsNameCode bs → AreAllSmall bs
name_bytes [] h = tt
name_bytes (b ∷ bs) h = (h.0.0, name_bytes bs h.1)

pub record TakesLine (stop : ℕ) (bytes : List ℕ) (read : List ℕ × List ℕ) : Type 0 where
  pub are : AreAllSmall read.0
  pub line : IsGlobalLine read.0
  pub text : bytes ≡ flat_map name_byte_text read.0 ++ stop ∷ read.1

line_takes : (stop : ℕ) (bytes : List ℕ) (read : List ℕ × List ℕ) → name_line_at stop bytes ≡ Some read → TakesLine stop bytes read
unfolding name_line_at name_bytes_at
line_takes stop bytes read e =
    from_bind (until_at stop (λ b. b ∷ []) name_byte_at (suc (length bytes)) [] bytes) _ read e (λ held at e1.
    let p = cond_some (is_utf8 held.0) held read e1 in
    let t = until_takes name_byte_text (λ b. b ∷ []) IsNameCode stop name_byte_at name_byte_takes (suc (length bytes)) [] bytes held at in
    let line_is : held.0 ≡ t.each = t.held_is ∙ held_same t.each in
    subst (TakesLine stop bytes) p.1
    (record {
      are = subst AreAllSmall (sym line_is) (name_bytes t.each t.are);
      line = record { one = ap is_one_line line_is ∙ one_line t.each t.are; utf8 = p.0 };
      text = t.text ∙ ap (λ (x : List ℕ). flat_map name_byte_text x ++ stop ∷ held.1) (sym line_is);
    }))

each_name : (stop : ℕ) (bs : List ℕ) → is_name_byte stop ≡ false → stop ≢ 92 → AreAllSmall bs → is_one_line bs ≡ true → AllByRecursion (OneAgain name_byte_text name_byte_at stop) bs
each_name stop [] h k are one = tt
each_name stop (b ∷ bs) h k are one =
    let p = cond_line (eqb b 10) (is_one_line bs) one in
    (name_once stop b h k (are.0, eqb-false _ _ p.0), each_name stop bs h k are.1 p.1)
  where
    cond_line : (t r : Bool) → cond t false r ≡ true → (t ≡ false) × (r ≡ true)
    cond_line true r e = absurd cc
    cond_line false r e = (refl, e)

line_again : (stop : ℕ) (line rest : List ℕ) → is_name_byte stop ≡ false → stop ≢ 92 → AreAllSmall line → IsGlobalLine line → name_line_at stop (flat_map name_byte_text line ++ stop ∷ rest) ≡ Some (line, rest)
unfolding name_line_at name_bytes_at
line_again stop line rest h k are is =
    let read = until_again name_byte_text (λ b. b ∷ []) stop name_byte_at line (each_name stop line h k are is.one)
    (suc (length (flat_map name_byte_text line ++ stop ∷ rest))) [] rest (omega arith) in
    rw (read, held_same line, is.utf8) refl

-- a global that was read
pub record TakesGlobal (bytes : List ℕ) (read : Node × List ℕ) : Type 0 where
  pub first : List ℕ
  pub second : List ℕ
  pub node : read.0 ≡ kinds.Global first second
  pub is : IsLeaf (kinds.Global first second)
  pub text : 60 ∷ bytes ≡ global_text first second ++ read.1

pub global_regroup : (a b rest : List ℕ) → (flat_map name_byte_text a ++ 58 ∷ (flat_map name_byte_text b ++ 62 ∷ [])) ++ rest ≡ flat_map name_byte_text a ++ 58 ∷ (flat_map name_byte_text b ++ 62 ∷ rest)
global_regroup a b rest = append_assoc (flat_map name_byte_text a) (58 ∷ (flat_map name_byte_text b ++ 62 ∷ [])) rest
    ∙ ap (λ (x : List ℕ). flat_map name_byte_text a ++ 58 ∷ x) (append_assoc (flat_map name_byte_text b) (62 ∷ []) rest)

pub global_takes : (bytes : List ℕ) (read : Node × List ℕ) → global_at bytes ≡ Some read → TakesGlobal bytes read
unfolding global_at
global_takes bytes read e =
    from_bind (name_line_at 58 bytes) _ read e (λ one at_one e1.
    from_bind (name_line_at 62 one.1) _ read e1 (λ other at_other is.
    let a = line_takes 58 bytes one at_one in
    let b = line_takes 62 one.1 other at_other in
    let whole : bytes ≡ flat_map name_byte_text one.0 ++ 58 ∷ (flat_map name_byte_text other.0 ++ 62 ∷ other.1) = a.text ∙ ap (λ (x : List ℕ). flat_map name_byte_text one.0 ++ 58 ∷ x) b.text in
    subst (TakesGlobal bytes) (same_Some (kinds.Global one.0 other.0, other.1) read is)
    (record {
      first = one.0;
      second = other.0;
      node = refl;
      is = (a.are, b.are, record { first = a.line; second = b.line });
      text = ap (λ (x : List ℕ). 60 ∷ x) (whole ∙ sym (global_regroup one.0 other.0 other.1));
    })))

-- behind its `<`
pub global_again : (a b rest : List ℕ) → IsLeaf (kinds.Global a b) → global_at ((flat_map name_byte_text a ++ 58 ∷ (flat_map name_byte_text b ++ 62 ∷ [])) ++ rest) ≡ Some (kinds.Global a b, rest)
unfolding global_at
global_again a b rest h =
    let one = line_again 58 a (flat_map name_byte_text b ++ 62 ∷ rest) refl (λ e. absurd (omega (arith, e))) h.0 h.2.first in
    let other = line_again 62 b rest refl (λ e. absurd (omega (arith, e))) h.1 h.2.second in
    rw (global_regroup a b rest, one, other) refl

-- ---- bytes of a kind

from_held : {P : Type 0} (kind : List ℕ → Node) (o : Option (List ℕ × List ℕ)) (y : Node × List ℕ) → held_as kind o ≡ Some y → ((read : List ℕ × List ℕ) → o ≡ Some read → (kind read.0, read.1) ≡ y → P) → P
from_held kind None y e then = absurd cc
from_held kind (Some read) y e then = then read refl (same_Some _ _ e)

wide_size : (n : ℕ) → is_wide_size n ≡ true → (16 < n) × (n < 2 ^ 31)
wide_size n e = let p = and_parts (ltb 16 n) (ltb n (2 ^ 31)) e in (ltb-true _ _ p.0, ltb-true _ _ p.1)

constant_takes : (bytes : List ℕ) (read : Node × List ℕ) → constant_at bytes ≡ Some read → TakesLeaf bytes read
unfolding constant_at
constant_takes bytes read e =
    from_if (rest_behind (codes "None") bytes) (λ rest. Some (kinds.None, rest)) _ read e
    (λ rest at is. subst (TakesLeaf bytes) (same_Some (kinds.None, rest) read is) (record { is = tt; text = behind_takes (codes "None") bytes rest at })) (λ e1.
    from_if (rest_behind (codes "True") bytes) (λ rest. Some (kinds.Bool true, rest)) _ read e1
    (λ rest at is. subst (TakesLeaf bytes) (same_Some (kinds.Bool true, rest) read is) (record { is = tt; text = behind_takes (codes "True") bytes rest at })) (λ e2.
    from_if (rest_behind (codes "False") bytes) (λ rest. Some (kinds.Bool false, rest)) None read e2
    (λ rest at is. subst (TakesLeaf bytes) (same_Some (kinds.Bool false, rest) read is) (record { is = tt; text = behind_takes (codes "False") bytes rest at })) (λ e3. absurd cc)))

bytes_kind_takes : (bytes : List ℕ) (read : Node × List ℕ) → bytes_kind_at bytes ≡ Some read → TakesLeaf bytes read
unfolding bytes_kind_at
bytes_kind_takes bytes read e =
    from_if (rest_behind (codes "n:") bytes) (λ rest. held_as kinds.Wide (counted_at is_wide_size rest)) _ read e
    (λ rest at e1. from_held kinds.Wide (counted_at is_wide_size rest) read e1 (λ held at_held is.
    let t = counted_takes is_wide_size rest held at_held in
    let size = wide_size (length held.0) t.size in
    subst (TakesLeaf bytes) is (record { is = (t.are, record { long = size.0; short = size.1 }); text = behind_takes (codes "n:") bytes rest at ∙ ap (λ (x : List ℕ). codes "n:" ++ x) t.text }))) (λ e1.
    from_if (rest_behind (codes "f:") bytes) (λ rest. held_as kinds.Float (counted_at is_float_size rest)) _ read e1
    (λ rest at e2. from_held kinds.Float (counted_at is_float_size rest) read e2 (λ held at_held is.
    let t = counted_takes is_float_size rest held at_held in
    subst (TakesLeaf bytes) is (record { is = (t.are, eqb-true _ _ t.size); text = behind_takes (codes "f:") bytes rest at ∙ ap (λ (x : List ℕ). codes "f:" ++ x) t.text }))) (λ e2.
    from_if (rest_behind (codes "b:") bytes) (λ rest. held_as kinds.Bytes (counted_at is_bytes_size rest)) _ read e2
    (λ rest at e3. from_held kinds.Bytes (counted_at is_bytes_size rest) read e3 (λ held at_held is.
    let t = counted_takes is_bytes_size rest held at_held in
    subst (TakesLeaf bytes) is (record { is = (t.are, ltb-true _ _ t.size); text = behind_takes (codes "b:") bytes rest at ∙ ap (λ (x : List ℕ). codes "b:" ++ x) t.text }))) (λ e3.
    from_if (rest_behind (codes "s:") bytes) (λ rest. held_as kinds.OldText (counted_at is_old_size rest)) (constant_at bytes) read e3
    (λ rest at e4. from_held kinds.OldText (counted_at is_old_size rest) read e4 (λ held at_held is.
    let t = counted_takes is_old_size rest held at_held in
    subst (TakesLeaf bytes) is (record { is = (t.are, ltb-true _ _ t.size); text = behind_takes (codes "s:") bytes rest at ∙ ap (λ (x : List ℕ). codes "s:" ++ x) t.text }))) (λ e4. constant_takes bytes read e4))))

-- ---- leaves

number_leaf : (bytes : List ℕ) (read : Node × List ℕ) → number_leaf_at bytes ≡ Some read → TakesLeaf bytes read
number_leaf bytes read e =
    let t = number_takes bytes read e in
    record { is = rw (t.node) t.is; text = rw (t.node) t.text }

pub leaf_takes : (bytes : List ℕ) (read : Node × List ℕ) → leaf_at bytes ≡ Some read → TakesLeaf bytes read
unfolding leaf_at
leaf_takes bytes read e = by_begin (begins_number bytes) e
  where
    other : if_some (rest_behind (codes "\"") bytes) text_at (if_some (rest_behind (codes "<") bytes) global_at (bytes_kind_at bytes)) ≡ Some read → TakesLeaf bytes read
    other e1 =
        from_if (rest_behind (codes "\"") bytes) text_at _ read e1 (λ rest at e2. rw (behind_takes (codes "\"") bytes rest at) (text_takes rest read e2)) (λ e2.
        from_if (rest_behind (codes "<") bytes) global_at (bytes_kind_at bytes) read e2
        (λ rest at e3.
        let t = global_takes rest read e3 in
        rw (behind_takes (codes "<") bytes rest at) (record { is = rw (t.node) t.is; text = rw (t.node) t.text })) (λ e3. bytes_kind_takes bytes read e3))

    by_begin : (t : Bool) → cond t (number_leaf_at bytes) (if_some (rest_behind (codes "\"") bytes) text_at (if_some (rest_behind (codes "<") bytes) global_at (bytes_kind_at bytes))) ≡ Some read → TakesLeaf bytes read
    by_begin true e1 = number_leaf bytes read e1
    by_begin false e1 = other e1

pub leaf_again : (node : Node) (rest : List ℕ) → IsLeaf node → Closed rest → leaf_at (leaf_literal node ++ rest) ≡ Some (node, rest)
unfolding leaf_at bytes_kind_at constant_at rest_behind
leaf_again kinds.None rest h closed = refl
leaf_again (kinds.Bool true) rest h closed = refl
leaf_again (kinds.Bool false) rest h closed = refl
leaf_again (kinds.Number z) rest h closed = rw (number_begins z rest h) (number_again z rest h closed)
leaf_again (kinds.Wide bytes) rest h closed = ap (held_as kinds.Wide) (counted_again is_wide_size bytes rest h.0 (rw (lt-ltb 16 (length bytes) h.1.long, lt-ltb (length bytes) (2 ^ 31) h.1.short) refl) closed)
leaf_again (kinds.Float bytes) rest h closed = ap (held_as kinds.Float) (counted_again is_float_size bytes rest h.0 (rw h.1 refl) closed)
leaf_again (kinds.Bytes bytes) rest h closed = ap (held_as kinds.Bytes) (counted_again is_bytes_size bytes rest h.0 (lt-ltb (length bytes) (2 ^ 32) h.1) closed)
leaf_again (kinds.OldText bytes) rest h closed = ap (held_as kinds.OldText) (counted_again is_old_size bytes rest h.0 (lt-ltb (length bytes) (2 ^ 31) h.1) closed)
leaf_again (kinds.Text bytes) rest h closed = ap text_at (append_assoc (flat_map character_text (chars bytes)) (34 ∷ []) rest) ∙ text_again bytes rest h
leaf_again (kinds.Tuple items) rest h closed = absurd h
leaf_again (kinds.List items) rest h closed = absurd h
leaf_again (kinds.Dict pairs) rest h closed = absurd h
leaf_again (kinds.Global a b) rest h closed = global_again a b rest h
leaf_again (kinds.Reference id) rest h closed = absurd h
leaf_again (kinds.Object a b c d) rest h closed = absurd h
