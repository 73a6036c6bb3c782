-- The two laws of a field: what is read is spelled so, and what is spelled so is read.
use Rattle.std.proofs.Common.{◌≡◌, ℕ, zero, suc, ◌+◌, ◌*◌, ◌/◌, ◌^◌, ◌<◌, ◌≤◌, true, false, eqb, ltb, leb, List, [], ◌∷◌, ◌++◌, length, get_or, take, drop, Option, Some, Ok, Err, refl, sym, ap, subst, ◌∙◌, append_assoc, arith}
use Rattle.std.specs.Prelude.{codes, ◌==◌, slice_get}
use Rattle.std.specs.List.{position, position_or_len}
use Rattle.std.specs.Str.{bytes_eq}
use Rattle.std.proofs.lemmas.Bool.{eqb-true, eq-eqb, ne_eqb, lt-ltb, ltb-true, leb-true, le-leb}
use Rattle.std.proofs.lemmas.Option.{same_Some, some_pair_parts, cond_some}
use Rattle.std.proofs.lemmas.List.{take-append-drop, take_at, drop_at, length-append, drop_more}
use Rattle.std.proofs.lemmas.List.Quantifiers.{position-Some}
use Rattle.std.proofs.lemmas.Slice.Eq.{bytes_eq-Decides}
use Rattle.pickle_writing.specs.declared.depth.TheConstants.{WALK_LIMIT}
use Rattle.pickle_graph.specs.declared.node.Node.{Node}
use Rattle.pickle_graph.specs.declared.node.Node.TheVariants as kinds
use Rattle.pickle_graph.specs.Graph.{Graph}
use Rattle.pickle_writing.specs.Spelling.{Spelled, pickled, pickle_text, spelling_of}
use Rattle.zb_ids.specs.Hex.{◌>>=◌, hex_number, number_at}
use Rattle.zb_ids.specs.HexLaws.{bind_some, from_bind, number_takes, number_again}
use Rattle.literal_reading.specs.Exact.{graph_spelled, SpelledIsLiteral, LiteralIsSpelled}
use Rattle.zb_literals.specs.Graphs.{last_of, with_value, with_values, with_pairs, named_values, named_pairs, graph_of}
use Rattle.literal_reading.specs.Literals.{IsLiteral}
use Rattle.zb_literals.specs.Texts.{quoted_text}
use Rattle.zb_literals.specs.Values.{Value, leaf, tuple, list, dict, reference, IsValue, literal_text}
use Rattle.pickle_graph.specs.Class.{is_class}
use Rattle.zb_record.specs.Records.{object_text, one_behind}
use Rattle.zb_script.specs.Spelling.{IsShort, Falls, AreTids, tids_text, IsRecordOf}
use Rattle.zb_script.specs.Reading.{cut_at, behind_word, field_at, text_in, short_at, short_field_at, sixteen_at, lower_at, lowers_at, tids_at, literal_cut, payload_of_text, record_at}
use Rattle.zb_script.proofs.Froms.{From, From-weaker, number_from, cond_else_none}
use Rattle.zb_script.proofs.GapLaws.{quoted_word, word_cut, cut_is}

-- which graph bytes are the literal of is a function of the bytes
pub record Exact : Type 0 where
  pub spelled : SpelledIsLiteral
  pub literal : LiteralIsSpelled

-- ---- cutting

pub cut_takes : (c : ℕ) (bytes a b : List ℕ) → cut_at c bytes ≡ Some (a, b) → bytes ≡ a ++ c ∷ b
unfolding cut_at
cut_takes c bytes a b e =
    let p = bind_some (position (λ x. x == c) bytes) (λ i. Some (take i bytes, drop (i + 1) bytes)) (a, b) e in
    let at = position-Some (λ x. x == c) bytes p.0 0 p.1 in
    let parts = some_pair_parts _ _ _ _ p.2 in
    let here : get_or bytes p.0 0 ≡ c = eqb-true _ _ at.1 in
    let rest : drop p.0 bytes ≡ c ∷ drop (p.0 + 1) bytes = rw (drop_more bytes p.0 0 at.0, here) refl in
    sym (take-append-drop p.0 bytes) ∙ cc (rest, parts.0, parts.1)

place_at : (c : ℕ) (a b : List ℕ) → From (suc c) a → position_or_len (λ x. x == c) (a ++ c ∷ b) ≡ length a
place_at c [] b h = rw (eq-eqb c c refl) refl
place_at c (x ∷ a) b h =
    let apart : eqb x c ≡ false = ne_eqb x c (λ e. absurd (omega (arith, h.0, e))) in
    rw (apart, place_at c a b h.1) (omega arith)

pub cut_again : (c : ℕ) (a b : List ℕ) → From (suc c) a → cut_at c (a ++ c ∷ b) ≡ Some (a, b)
unfolding cut_at
cut_again c a b h =
    let place = place_at c a b h in
    let within : ltb (length a) (length (a ++ c ∷ b)) ≡ true = lt-ltb _ _ (omega (arith, length-append a (c ∷ b))) in
    let found : position (λ x. x == c) (a ++ c ∷ b) ≡ Some (length a) = rw (place, within) refl in
    let front = take_at a (c ∷ b) (length a) refl in
    let whole : a ++ c ∷ b ≡ (a ++ c ∷ []) ++ b = sym (append_assoc a (c ∷ []) b) in
    let back : drop (length a + 1) (a ++ c ∷ b) ≡ b = rw whole (drop_at (a ++ c ∷ []) b (length a + 1) (omega (arith, length-append a (c ∷ [])))) in
    rw (found, front, back) refl

pub behind_takes : (word bytes rest : List ℕ) → behind_word word bytes ≡ Some rest → bytes ≡ word ++ rest
unfolding behind_word
behind_takes word bytes rest e =
    let p = cond_some (bytes_eq (take (length word) bytes) word) (drop (length word) bytes) rest e in
    let front : take (length word) bytes ≡ word = (bytes_eq-Decides _ _).0 p.0 in
    sym (take-append-drop (length word) bytes) ∙ cc (front, p.1)

-- ---- numbers

pub record TakesNumber (bytes : List ℕ) (spelled : List ℕ → List ℕ) (x : ℕ × List ℕ) : Type 0 where
  pub small : x.0 < 2 ^ 64
  pub is : bytes ≡ hex_number x.0 ++ spelled x.1

pub field_takes : (bytes : List ℕ) (x : ℕ × List ℕ) → field_at bytes ≡ Some x → TakesNumber bytes (λ rest. 32 ∷ rest) x
unfolding field_at
field_takes bytes x e =
    let p = bind_some (cut_at 32 bytes) (λ word. number_at word.0 >>= λ number. Some (number, word.1)) x e in
    let q = bind_some (number_at p.0.0) (λ number. Some (number, p.0.1)) x p.2 in
    let cut = cut_takes 32 bytes p.0.0 p.0.1 p.1 in
    let number = number_takes p.0.0 q.0 q.1 in
    subst (TakesNumber bytes (λ rest. 32 ∷ rest)) (same_Some (q.0, p.0.1) x q.2) (record { small = number.0; is = cc (cut, number.1) })

pub field_again : (n : ℕ) (rest : List ℕ) → n < 2 ^ 64 → field_at (hex_number n ++ 32 ∷ rest) ≡ Some (n, rest)
unfolding field_at
field_again n rest h = rw (cut_again 32 (hex_number n) rest (From-weaker 48 33 _ (omega arith) (number_from n)), number_again n h) refl

sixteen_long : (n : ℕ) → n < 2 ^ 64 → length (hex_number n) ≡ 16
unfolding number_at
sixteen_long n h = let p = cond_else_none (eqb (length (hex_number n)) 16) _ n (number_again n h) in eqb-true (length (hex_number n)) 16 p.0

pub sixteen_takes : (bytes : List ℕ) (x : ℕ × List ℕ) → sixteen_at bytes ≡ Some x → TakesNumber bytes (λ rest. rest) x
unfolding sixteen_at
sixteen_takes bytes x e =
    from_bind (number_at (take 16 bytes)) _ x e (λ number at is.
    let t = number_takes (take 16 bytes) number at in
    subst (TakesNumber bytes (λ rest. rest)) (same_Some (number, drop 16 bytes) x is)
    (record { small = t.0; is = sym (take-append-drop 16 bytes) ∙ ap (λ (y : List ℕ). y ++ drop 16 bytes) t.1 }))

pub sixteen_again : (n : ℕ) (rest : List ℕ) → n < 2 ^ 64 → sixteen_at (hex_number n ++ rest) ≡ Some (n, rest)
unfolding sixteen_at
sixteen_again n rest h =
    let long = sixteen_long n h in
    rw (take_at (hex_number n) rest 16 long, drop_at (hex_number n) rest 16 long, number_again n h) refl

pub record TakesLower (bound : ℕ) (bytes : List ℕ) (x : ℕ × List ℕ) : Type 0 where
  pub below : x.0 < bound
  pub is : bytes ≡ 32 ∷ (hex_number x.0 ++ x.1)

lower_takes : (bound : ℕ) (bytes : List ℕ) (x : ℕ × List ℕ) → lower_at bound bytes ≡ Some x → TakesLower bound bytes x
unfolding lower_at
lower_takes bound bytes x e =
    from_bind (behind_word (codes " ") bytes) _ x e (λ rest at e1.
    from_bind (sixteen_at rest) _ x e1 (λ tid at_tid e2.
    let p = cond_some (ltb tid.0 bound) tid x e2 in
    let t = sixteen_takes rest tid at_tid in
    subst (TakesLower bound bytes) p.1 (record { below = ltb-true tid.0 bound p.0; is = behind_takes (codes " ") bytes rest at ∙ ap (λ (y : List ℕ). 32 ∷ y) t.is })))

lower_again : (bound n : ℕ) (rest : List ℕ) → n < 2 ^ 64 → n < bound → lower_at bound (32 ∷ (hex_number n ++ rest)) ≡ Some (n, rest)
unfolding lower_at behind_word
lower_again bound n rest h below = rw (sixteen_again n rest h, lt-ltb n bound below) refl

pub record TakesLowers (bound : ℕ) (bytes tids : List ℕ) : Type 0 where
  pub fall : Falls bound tids
  pub is : bytes ≡ tids_text tids

no_bytes : (bytes : List ℕ) → eqb (length bytes) 0 ≡ true → bytes ≡ []
no_bytes [] e = refl
no_bytes (b ∷ bytes) e = absurd (omega (arith, eqb-true (length (b ∷ bytes)) 0 e))

lowers_take : (n bound : ℕ) (bytes tids : List ℕ) → lowers_at n bound bytes ≡ Some tids → TakesLowers bound bytes tids
unfolding lowers_at
lowers_take zero bound bytes tids e =
    let p = cond_some (eqb (length bytes) 0) [] tids e in
    subst (TakesLowers bound bytes) p.1 (record { fall = tt; is = no_bytes bytes p.0 })
lowers_take (suc n) bound bytes tids e =
    from_bind (lower_at bound bytes) _ tids e (λ tid at e1.
    from_bind (lowers_at n tid.0 tid.1) _ tids e1 (λ others at_others is.
    let t = lower_takes bound bytes tid at in
    let later = lowers_take n tid.0 tid.1 others at_others in
    subst (TakesLowers bound bytes) (same_Some (tid.0 ∷ others) tids is)
    (record { fall = (t.below, later.fall); is = t.is ∙ ap (λ (y : List ℕ). 32 ∷ (hex_number tid.0 ++ y)) later.is })))

lowers_again : (tids : List ℕ) (bound : ℕ) → bound ≤ 2 ^ 64 → Falls bound tids → lowers_at (length tids) bound (tids_text tids) ≡ Some tids
unfolding lowers_at
lowers_again [] bound most h = refl
lowers_again (tid ∷ tids) bound most h =
    let small : tid < 2 ^ 64 = omega (arith, h.0, most) in
    rw (lower_again bound tid (tids_text tids) small h.0, lowers_again tids tid (omega (arith, small)) h.1) refl

tids_long : (tids : List ℕ) (bound : ℕ) → bound ≤ 2 ^ 64 → Falls bound tids → length (tids_text tids) ≡ 17 * length tids
tids_long [] bound most h = refl
tids_long (tid ∷ tids) bound most h =
    let small : tid < 2 ^ 64 = omega (arith, h.0, most) in
    omega (arith, length-append (hex_number tid) (tids_text tids), sixteen_long tid small, tids_long tids tid (omega (arith, small)) h.1)

pub record TakesTids (bytes tids : List ℕ) : Type 0 where
  pub are : AreTids tids
  pub is : 32 ∷ bytes ≡ tids_text tids

pub tids_take : (bytes tids : List ℕ) → tids_at bytes ≡ Some tids → TakesTids bytes tids
unfolding tids_at
tids_take bytes tids e =
    from_bind (sixteen_at bytes) _ tids e (λ tid at e1.
    from_bind (lowers_at (length tid.1 / 17) tid.0 tid.1) _ tids e1 (λ others at_others is.
    let t = sixteen_takes bytes tid at in
    let later = lowers_take (length tid.1 / 17) tid.0 tid.1 others at_others in
    subst (TakesTids bytes) (same_Some (tid.0 ∷ others) tids is)
    (record { are = record { some = omega arith; fall = (t.small, later.fall) }; is = ap (λ (y : List ℕ). 32 ∷ y) t.is ∙ ap (λ (y : List ℕ). 32 ∷ (hex_number tid.0 ++ y)) later.is })))

pub tids_again : (tid : ℕ) (tids : List ℕ) → Falls (2 ^ 64) (tid ∷ tids) → tids_at (hex_number tid ++ tids_text tids) ≡ Some (tid ∷ tids)
unfolding tids_at
tids_again tid tids h =
    let most : tid ≤ 2 ^ 64 = omega (arith, h.0) in
    let many : length (tids_text tids) / 17 ≡ length tids = omega (arith, tids_long tids tid most h.1) in
    rw (sixteen_again tid (tids_text tids) h.0, many, lowers_again tids tid most h.1) refl

-- ---- texts

pub last_node : (xs : List Node) (x : Node) → slice_get (xs ++ x ∷ []) (last_of (xs ++ x ∷ [])) ≡ Some x
last_node xs x = ap (slice_get (xs ++ x ∷ [])) (omega (arith, length-append xs (x ∷ []))) ∙ at_end xs
  where
    at_end : (ys : List Node) → slice_get (ys ++ x ∷ []) (length ys) ≡ Some x
    at_end [] = refl
    at_end (y ∷ ys) = at_end ys

text_node : (node : Node) (text : List ℕ) → text_in (Some node) ≡ Some text → node ≡ kinds.Text text
text_node (kinds.Text held) text e = ap kinds.Text (same_Some held text e)
text_node kinds.None text e = absurd cc
text_node (kinds.Bool b) text e = absurd cc
text_node (kinds.Number z) text e = absurd cc
text_node (kinds.Wide bytes) text e = absurd cc
text_node (kinds.Float bytes) text e = absurd cc
text_node (kinds.Bytes bytes) text e = absurd cc
text_node (kinds.OldText bytes) text e = absurd cc
text_node (kinds.Tuple items) text e = absurd cc
text_node (kinds.List items) text e = absurd cc
text_node (kinds.Dict pairs) text e = absurd cc
text_node (kinds.Global a b) text e = absurd cc
text_node (kinds.Reference id) text e = absurd cc
text_node (kinds.Object a b c d) text e = absurd cc

-- the graph of a tree has a text as its root where the tree is that text
abbrev pub root_of : Value → Option Node
root_of v = slice_get (with_value [] v) (last_of (with_value [] v))

root_text : (v : Value) (text : List ℕ) → text_in (root_of v) ≡ Some text → v ≡ leaf (kinds.Text text)
root_text (leaf node) text e = ap leaf (text_node node text e)
root_text (tuple vs) text e = let last = last_node (with_values [] vs) (kinds.Tuple (named_values [] vs)) in let never = sym (ap text_in last) ∙ e in absurd cc
root_text (list vs) text e = let last = last_node (with_values [] vs) (kinds.List (named_values [] vs)) in let never = sym (ap text_in last) ∙ e in absurd cc
root_text (dict ps) text e = let last = last_node (with_pairs [] ps) (kinds.Dict (named_pairs [] ps)) in let never = sym (ap text_in last) ∙ e in absurd cc
root_text (reference v) text e = let last = last_node (with_value [] v) (kinds.Reference (last_of (with_value [] v))) in let never = sym (ap text_in last) ∙ e in absurd cc

pub record TakesShort (bytes text : List ℕ) : Type 0 where
  pub short : IsShort text
  pub is : bytes ≡ quoted_text text

spelled_text : (v : Value) (bytes text : List ℕ) → IsValue (WALK_LIMIT + 1) v → bytes ≡ literal_text v → v ≡ leaf (kinds.Text text) → length text ≤ 65535 → TakesShort bytes text
spelled_text v bytes text each is same few =
    let held = subst (IsValue (WALK_LIMIT + 1)) same each in
    record { short = record { utf8 = held.utf8; fits = few }; is = is ∙ ap literal_text same }

pub short_takes : Exact → (bytes text : List ℕ) → short_at bytes ≡ Some text → TakesShort bytes text
unfolding short_at
short_takes exact bytes text e =
    from_bind (graph_spelled bytes) _ text e (λ graph at e1.
    from_bind (text_in (slice_get graph.nodes graph.root)) _ text e1 (λ held at_held e2.
    let p = cond_some (leb (length held) 65535) held text e2 in
    let h = exact.spelled bytes graph at in
    let rooted : text_in (root_of h.tree) ≡ Some held = subst (λ (g : Graph). text_in (slice_get g.nodes g.root) ≡ Some held) h.stands at_held in
    subst (TakesShort bytes) p.1 (spelled_text h.tree bytes held h.each h.text (root_text h.tree held rooted) (leb-true (length held) 65535 p.0))))

pub text_literal_is : (text : List ℕ) → IsShort text → IsLiteral (quoted_text text) (graph_of (leaf (kinds.Text text)))
text_literal_is text h =
    record { tree = leaf (kinds.Text text); each = record { utf8 = h.utf8; short = omega (arith, h.fits) }; text = refl; stands = refl }

pub short_again : Exact → (text : List ℕ) → IsShort text → short_at (quoted_text text) ≡ Some text
unfolding short_at
short_again exact text h = rw (exact.literal (quoted_text text) (graph_of (leaf (kinds.Text text))) (text_literal_is text h), le-leb (length text) 65535 h.fits) refl

pub record TakesShortField (bytes : List ℕ) (x : List ℕ × List ℕ) : Type 0 where
  pub short : IsShort x.0
  pub is : bytes ≡ quoted_text x.0 ++ 32 ∷ x.1

pub short_field_takes : Exact → (bytes : List ℕ) (x : List ℕ × List ℕ) → short_field_at bytes ≡ Some x → TakesShortField bytes x
unfolding short_field_at
short_field_takes exact bytes x e =
    from_bind (literal_cut bytes) _ x e (λ word at_word e1.
    from_bind (short_at word.0) _ x e1 (λ text at_text is.
    let t = short_takes exact word.0 text at_text in
    subst (TakesShortField bytes) (same_Some (text, word.1) x is) (record { short = t.short; is = cut_is bytes word at_word ∙ ap (λ (y : List ℕ). y ++ 32 ∷ word.1) t.is })))

pub short_field_again : Exact → (text rest : List ℕ) → IsShort text → short_field_at (quoted_text text ++ 32 ∷ rest) ≡ Some (text, rest)
unfolding short_field_at
short_field_again exact text rest h = rw (word_cut (quoted_text text) rest (quoted_word text), short_again exact text h) refl

-- ---- records

payload_is : (spelled : Spelled) (bytes : List ℕ) → payload_of_text spelled ≡ Some bytes → spelled ≡ Ok bytes
payload_is (Ok []) bytes e = absurd cc
payload_is (Ok (b ∷ text)) bytes e = ap (λ (x : List ℕ). Ok x) (same_Some (b ∷ text) bytes e)
payload_is (Err error) bytes e = absurd cc

payload_some : (class state : Spelled) (bytes : List ℕ) → one_behind (pickled class) state ≡ Ok bytes → payload_of_text (Ok bytes) ≡ Some bytes
payload_some (Err error) state bytes e = absurd cc
payload_some (Ok class) (Err error) bytes e = absurd cc
payload_some (Ok class) (Ok state) [] e = absurd cc
payload_some (Ok class) (Ok state) (b ∷ bytes) e = refl

pub record_takes : Exact → (class_text state_text bytes : List ℕ) → record_at class_text state_text ≡ Some bytes → IsRecordOf class_text state_text bytes
unfolding record_at
record_takes exact class_text state_text bytes e =
    from_bind (graph_spelled class_text) _ bytes e (λ class at_class e1.
    from_bind (graph_spelled state_text) _ bytes e1 (λ state at_state e2.
    let p = cond_else_none (is_class class) (payload_of_text (object_text class state)) bytes e2 in
    record {
      class = class;
      state = state;
      class_spelled = exact.spelled class_text class at_class;
      state_spelled = exact.spelled state_text state at_state;
      class_is = p.0;
      written = payload_is (object_text class state) bytes p.1;
    }))

pub record_again : Exact → (class_text state_text bytes : List ℕ) → IsRecordOf class_text state_text bytes → record_at class_text state_text ≡ Some bytes
unfolding record_at
record_again exact class_text state_text bytes h =
    rw (exact.literal class_text h.class h.class_spelled, exact.literal state_text h.state h.state_spelled, h.class_is, h.written)
    (payload_some (spelling_of h.class.nodes h.class.root) (pickle_text h.state) bytes h.written)

written_some : (class state : Spelled) (bytes : List ℕ) → one_behind (pickled class) state ≡ Ok bytes → 0 < length bytes
written_some (Err error) state bytes e = absurd cc
written_some (Ok class) (Err error) bytes e = absurd cc
written_some (Ok class) (Ok state) [] e = absurd cc
written_some (Ok class) (Ok state) (b ∷ bytes) e = omega arith

-- a record has a byte
pub record_some : (class_text state_text bytes : List ℕ) → IsRecordOf class_text state_text bytes → 0 < length bytes
record_some class_text state_text bytes h = written_some (spelling_of h.class.nodes h.class.root) (pickle_text h.state) bytes h.written
