-- Each line of the script is one that a script can have.
use Rattle.std.proofs.Common.{◌≡◌, ℕ, zero, suc, ◌+◌, ◌%◌, ◌^◌, ◌<◌, ◌≤◌, Bool, true, false, List, [], ◌∷◌, ◌++◌, Ok, refl, sym, subst, arith}
use Rattle.std.specs.Prelude.{pos, codes, decimal, nat_lt}
use Rattle.std.specs.List.{AllByRecursion, flat_map, list_all}
use Rattle.std.specs.Str.{IsAscii, chars, is_utf8}
use Rattle.std.proofs.lemmas.Bool.{and_parts, ltb-true}
use Rattle.std.proofs.lemmas.Bool.Decides.{nat_tests}
use Rattle.std.proofs.lemmas.Str.{IsUtf8-from_ascii, chars-IsAscii, is_utf8-from_IsUtf8}
use Rattle.zb_ids.specs.Hex.{hex_number}
use Rattle.pickle_graph.specs.declared.node.Node.TheVariants as kinds
use Rattle.pickle_graph.specs.Class.{is_class}
use Rattle.pickle_graph.specs.Graph.{IsSigned128}
use Rattle.pickle_writing.specs.declared.depth.TheConstants.{WALK_LIMIT}
use Rattle.pickle_writing.specs.Spelling.{root_piece, spelling_of}
use Rattle.zb_record.specs.Records.{object_text}
use Rattle.btree_family.specs.declared.key.Key.TheVariants as keys
use Rattle.zb_literals.specs.GraphLaws.{value_shallow}
use Rattle.zb_literals.specs.Graphs.{graph_of, last_of, with_value}
use Rattle.zb_literals.specs.Texts.{character_text}
use Rattle.zb_literals.specs.Values.{AreAllSmall, IsValue, Value, dict, leaf, literal_text, no_pairs, pair, reference}
use Rattle.zb_script.specs.declared.line.Line.{Line}
use Rattle.zb_script.specs.declared.line.Line.TheVariants as lines
use Rattle.zb_script.specs.declared.tree_call.TreeCall.TheVariants as calls
use Rattle.zb_script.specs.Keys.{key_literal}
use Rattle.zb_script.specs.Spelling.{IsLineText, IsShort}
use Rattle.gen_script.specs.declared.line.GenLine.{GenLine}
use Rattle.gen_script.specs.Left.{SaysLine}
use Rattle.gen_script.specs.Script.{drawn, gen_lines, is_hundredth, next, pack_behind, round, rounds, set_text, setup, three_digits, turns_of}

-- ---- values

-- the pickle of a value, without what stands before and behind it
abbrev spelling : Value → List ℕ
spelling v = (root_piece (with_value [] v) (last_of (with_value [] v))).text

abbrev IsShallow : Value → Type 0
IsShallow v = IsValue (WALK_LIMIT + 1) v

-- it is one, where the value isn't too deep
value_spelled : (v : Value) → IsShallow v → spelling_of (with_value [] v) (last_of (with_value [] v)) ≡ Ok (spelling v)
value_spelled v is = rw (value_shallow (WALK_LIMIT + 1) v is) refl

small_bytes : (xs : List ℕ) → list_all (λ b. nat_lt b 256) xs ≡ true → AreAllSmall xs
small_bytes [] e = tt
small_bytes (x ∷ xs) e =
    let both = and_parts (nat_lt x 256) (list_all (λ b. nat_lt b 256) xs) e in
    (ltb-true x 256 both.0, small_bytes xs both.1)

-- bytes of ASCII are UTF-8
small_ascii : (xs : List ℕ) → list_all (λ b. nat_lt b 128) xs ≡ true → IsAscii xs
small_ascii [] e i = omega arith
small_ascii (x ∷ xs) e zero = let both = and_parts (nat_lt x 128) (list_all (λ b. nat_lt b 128) xs) e in ltb-true x 128 both.0
small_ascii (x ∷ xs) e (suc i) = let both = and_parts (nat_lt x 128) (list_all (λ b. nat_lt b 128) xs) e in small_ascii xs both.1 i

plain_utf8 : (xs : List ℕ) → list_all (λ b. nat_lt b 128) xs ≡ true → is_utf8 xs ≡ true
plain_utf8 xs e = is_utf8-from_IsUtf8 xs (IsUtf8-from_ascii xs (small_ascii xs e))

-- ---- a text of digits within quotes

abbrev IsDigit : ℕ → Type 0
IsDigit b = (48 ≤ b) × (b < 58)

abbrev AreDigits : List ℕ → Type 0
AreDigits xs = AllByRecursion IsDigit xs

digits_stand : (xs : List ℕ) → AreDigits xs → flat_map character_text xs ≡ xs
digits_stand [] h = refl
digits_stand (x ∷ xs) h = rw (one x h.0, digits_stand xs h.1) refl
  where
    one : (b : ℕ) → IsDigit b → character_text b ≡ b ∷ []
    one b k = grind (arith, nat_tests)

digits_ascii : (xs : List ℕ) → AreDigits xs → IsAscii xs
digits_ascii [] h i = omega arith
digits_ascii (x ∷ xs) h zero = omega (arith, h.0)
digits_ascii (x ∷ xs) h (suc i) = digits_ascii xs h.1 i

three_are_digits : (n : ℕ) → n < 1000 → AreDigits (three_digits n)
three_are_digits n h = ((omega arith, omega arith), ((omega arith, omega arith), ((omega arith, omega arith), tt)))

-- a letter and digits
abbrev named : List ℕ → List ℕ
named digits = 107 ∷ digits

named_ascii : (digits : List ℕ) → AreDigits digits → IsAscii (named digits)
named_ascii digits h zero = omega arith
named_ascii digits h (suc i) = digits_ascii digits h i

named_utf8 : (digits : List ℕ) → AreDigits digits → is_utf8 (named digits) ≡ true
named_utf8 digits h = is_utf8-from_IsUtf8 (named digits) (IsUtf8-from_ascii (named digits) (named_ascii digits h))

named_quoted : (digits : List ℕ) → AreDigits digits → key_literal (keys.Text (named digits)) ≡ 34 ∷ 107 ∷ (digits ++ 34 ∷ [])
named_quoted digits h = rw (named_utf8 digits h, chars-IsAscii (named digits) (named_ascii digits h), digits_stand digits h) refl

-- ---- lines

says : (text : List ℕ) (line : Line) → IsLineText text line → SaysLine text
says text line is = record { line = line; is = is }

first_oid : hex_number 1 ≡ codes "0000000000000001"
unfolding hex_number
first_oid = refl

root_oid : hex_number 0 ≡ codes "0000000000000000"
unfolding hex_number
root_oid = refl

last_tid : hex_number 0xffff_ffff_ffff_ffff ≡ codes "ffffffffffffffff"
unfolding hex_number
last_tid = refl

number_signed : (n : ℕ) → n < 2 ^ 64 → IsSigned128 (pos n)
number_signed n h = record { low = grind arith; high = grind (arith, h) }

-- the tree has a number under a key
set_says : (key value : ℕ) → key < 1000 → value < 2 ^ 64 → SaysLine (set_text key value)
set_says key value small low =
    let number : Value = leaf (kinds.Number (pos value)) in
    let is : IsShallow number = number_signed value low in
    let digits : AreDigits (three_digits key) = three_are_digits key small in
    says (set_text key value) (lines.Tree 1 (calls.Set (keys.Text (named (three_digits key))) (spelling number)))
    (record {
      oid_small = omega arith;
      is_key = record { utf8 = named_utf8 (three_digits key) digits; short = omega arith };
      value_text = decimal value;
      stored = record { graph = graph_of number; literal = record { tree = number; each = is; text = refl; stands = refl }; spelled = value_spelled number is };
      is = rw (first_oid, named_quoted (three_digits key) digits) refl;
    })

-- PROTO 3, the spelling, and STOP
abbrev whole : Value → List ℕ
whole v = 0x80 ∷ 3 ∷ (spelling v ++ 0x2e ∷ [])

written : (class state : Value) → IsShallow class → IsShallow state → object_text (graph_of class) (graph_of state) ≡ Ok (whole class ++ whole state)
written class state one two = rw (value_spelled class one, value_spelled state two) refl

abbrev put_text : List ℕ → Value → Value → List ℕ
put_text digits class state = codes "put " ++ (digits ++ 32 ∷ (literal_text class ++ 32 ∷ literal_text state))

-- an object has a class and a state
put_says : (oid : ℕ) (digits : List ℕ) (class state : Value) → oid < 2 ^ 64 → hex_number oid ≡ digits → IsShallow class → is_class (graph_of class) ≡ true → IsShallow state → SaysLine (put_text digits class state)
put_says oid digits class state small spelled one is two =
    says (put_text digits class state) (lines.Put oid (whole class ++ whole state))
    (record {
      oid_small = small;
      class_text = literal_text class;
      state_text = literal_text state;
      stored = record {
        class = graph_of class;
        state = graph_of state;
        class_spelled = record { tree = class; each = one; text = refl; stands = refl };
        state_spelled = record { tree = state; each = two; text = refl; stands = refl };
        class_is = is;
        written = written class state one two;
      };
      is = rw spelled refl;
    })

-- the tree's class and state
abbrev tree_class : Value
tree_class = leaf (kinds.Global (codes "BTrees.OOBTree") (codes "OOBTree"))

tree_class_is : IsShallow tree_class
tree_class_is = (
  small_bytes (codes "BTrees.OOBTree") refl,
  small_bytes (codes "OOBTree") refl,
  record { first = record { one = refl; utf8 = plain_utf8 (codes "BTrees.OOBTree") refl }; second = record { one = refl; utf8 = plain_utf8 (codes "OOBTree") refl } },
)

tree_says : SaysLine (codes "put 0000000000000001 <BTrees.OOBTree:OOBTree> None")
tree_says = put_says 1 (codes "0000000000000001") tree_class (leaf kinds.None) (omega arith) first_oid tree_class_is refl tt

-- those of the root, which leads to the tree
abbrev root_class : Value
root_class = leaf (kinds.Global (codes "persistent.mapping") (codes "PersistentMapping"))

root_class_is : IsShallow root_class
root_class_is = (
  small_bytes (codes "persistent.mapping") refl,
  small_bytes (codes "PersistentMapping") refl,
  record { first = record { one = refl; utf8 = plain_utf8 (codes "persistent.mapping") refl }; second = record { one = refl; utf8 = plain_utf8 (codes "PersistentMapping") refl } },
)

abbrev eight_bytes : List ℕ
eight_bytes = 0 ∷ 0 ∷ 0 ∷ 0 ∷ 0 ∷ 0 ∷ 0 ∷ 1 ∷ []

abbrev root_state : Value
root_state = dict (pair (leaf (kinds.Text (codes "data"))) (dict (pair (leaf (kinds.Text (codes "t"))) (reference (leaf (kinds.Bytes eight_bytes))) no_pairs)) no_pairs)

root_state_is : IsShallow root_state
root_state_is = (
  record { utf8 = plain_utf8 (codes "data") refl; short = omega arith },
  (record { utf8 = plain_utf8 (codes "t") refl; short = omega arith }, (small_bytes eight_bytes refl, omega arith), tt),
  tt,
)

root_text : codes "{\"data\":{\"t\":@0000000000000001}}" ≡ literal_text root_state
unfolding chars
root_text = refl

root_says : SaysLine (codes "put 0000000000000000 <persistent.mapping:PersistentMapping> {\"data\":{\"t\":@0000000000000001}}")
root_says =
    subst (λ (text : List ℕ). SaysLine (codes "put 0000000000000000 <persistent.mapping:PersistentMapping> " ++ text)) (sym root_text)
    (put_says 0 (codes "0000000000000000") root_class root_state (omega arith) root_oid root_class_is refl root_state_is)

-- a vote says nothing of who and of what, or what it is for
empty_short : IsShort []
empty_short = record { utf8 = plain_utf8 [] refl; fits = omega arith }

vote_says : SaysLine (codes "vote \"\" \"\"")
unfolding chars
vote_says = says (codes "vote \"\" \"\"") (lines.Vote [] []) (record { user_short = empty_short; description_short = empty_short; is = refl })

setup_short : IsShort (codes "setup")
setup_short = record { utf8 = plain_utf8 (codes "setup") refl; fits = omega arith }

setup_vote_says : SaysLine (codes "vote \"\" \"setup\"")
unfolding chars
setup_vote_says = says (codes "vote \"\" \"setup\"") (lines.Vote [] (codes "setup")) (record { user_short = empty_short; description_short = setup_short; is = refl })

pack_says : SaysLine (codes "pack ffffffffffffffff")
pack_says = says (codes "pack ffffffffffffffff") (lines.Pack 0xffff_ffff_ffff_ffff true) (record { small = omega arith; is = rw last_tid refl })

local_says : SaysLine (codes "open local")
local_says = says (codes "open local") (lines.Open false) refl

remote_says : SaysLine (codes "open remote")
remote_says = says (codes "open remote") (lines.Open true) refl

begin_says : SaysLine (codes "begin")
begin_says = says (codes "begin") lines.Begin refl

new_says : SaysLine (codes "new")
new_says = says (codes "new") lines.New refl

finish_says : SaysLine (codes "finish")
finish_says = says (codes "finish") lines.Finish refl

abort_says : SaysLine (codes "abort")
abort_says = says (codes "abort") lines.Abort refl

deliver_says : SaysLine (codes "deliver")
deliver_says = says (codes "deliver") lines.Deliver refl

-- ---- the script

abbrev pub AllSay : List GenLine → Type 0
AllSay lines = AllByRecursion (λ l. SaysLine l.text) lines

say_both : (a b : List GenLine) → AllSay a → AllSay b → AllSay (a ++ b)
say_both [] b first second = second
say_both (l ∷ a) b first second = (first.0, say_both a b first.1 second)

setup_say : AllSay setup
setup_say = (local_says, (local_says, (remote_says, (remote_says, (begin_says, (new_says, (tree_says, (root_says, (setup_vote_says, (finish_says, tt))))))))))

turns_say : (i j u v k : ℕ) → u < 1000 → v < 1000 → k < 2 ^ 64 → AllSay (turns_of i j u v k)
turns_say i j u v k first second low =
    (deliver_says, (deliver_says, (begin_says, (begin_says, (set_says u k first low, (set_says v k second low, (vote_says, (finish_says, (vote_says, (finish_says, (abort_says, (abort_says, tt))))))))))))

pack_say : (b : Bool) → AllSay (pack_behind b)
pack_say true = (pack_says, tt)
pack_say false = tt

drawn_small : (x : ℕ) → drawn x < 1000
drawn_small x = omega arith

rounds_say : (count k x : ℕ) → k + count ≤ 2 ^ 64 → AllSay (rounds count k x)
rounds_say zero k x room = tt
rounds_say (suc count) k x room =
    say_both (round k x) (rounds count (k + 1) (next (next x)))
    (say_both (turns_of (k % 4) ((k + 1) % 4) (drawn (next x)) (drawn (next (next x))) k) (pack_behind (is_hundredth k))
    (turns_say (k % 4) ((k + 1) % 4) (drawn (next x)) (drawn (next (next x))) k (drawn_small (next x)) (drawn_small (next (next x))) (omega (arith, room)))
    (pack_say (is_hundredth k)))
    (rounds_say count (k + 1) (next (next x)) (omega (arith, room)))

pub all_say : (n : ℕ) → n ≤ 8000 → AllSay (gen_lines n)
all_say n most = say_both setup (rounds n 1 n) setup_say (rounds_say n 1 n (omega (arith, most)))
