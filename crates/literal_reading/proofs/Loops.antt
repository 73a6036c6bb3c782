-- Steps of the loops that read: the number that bounds the turns says nothing where it is above the count of bytes.
use Rattle.std.proofs.Common.{◌≡◌, ℕ, zero, suc, ◌<◌, ◌≤◌, List, [], ◌∷◌, ◌++◌, length, Option, Some, None, refl, sym, subst, ◌∙◌, arith}
use Rattle.std.specs.Prelude.{codes}
use Rattle.std.specs.Char.{encode_utf8}
use Rattle.std.proofs.lemmas.Option.{same_Some}
use Rattle.zb_ids.specs.Hex.{◌>>=◌}
use Rattle.zb_ids.specs.HexLaws.{from_bind}
use Rattle.pickle_graph.specs.declared.node.Node.{Node}
use Rattle.literal_reading.specs.Reading.{RefusesLiteral, if_some, rest_behind, until_at, many_at, Listed, characters_at, character_at, name_bytes_at, name_byte_at, item_at, pair_at, values_at, pairs_at, value_at}
use Rattle.literal_reading.specs.declared.error.LiteralError.{LiteralError}
use Rattle.literal_reading.specs.declared.error.LiteralError.TheVariants as errors
use Rattle.literal_reading.proofs.Steps.{behind_takes}
use Rattle.literal_reading.proofs.CharacterLaws.{character_shrinks, name_shrinks}
use Rattle.literal_reading.proofs.TreeLaws.{value_stays}

-- what is left isn't longer
abbrev pub Stays : {X : Type 0} → (List Node → List X → List ℕ → Listed X) → Type 0
Stays {X} one = (nodes : List Node) (items : List X) (bytes : List ℕ) (read : List Node × List X × List ℕ) → one nodes items bytes ≡ Some read → length read.2 ≤ length bytes

pub behind_shorter : (b : ℕ) (bytes rest : List ℕ) → rest_behind (b ∷ []) bytes ≡ Some rest → length rest < length bytes
behind_shorter b bytes rest e = rw (behind_takes (b ∷ []) bytes rest e) (omega arith)

pub many_enough : {X : Type 0} (one : List Node → List X → List ℕ → Listed X) → Stays one → (m n : ℕ) (nodes : List Node) (items : List X) (bytes : List ℕ)
    → length bytes < m → length bytes < n → many_at one m nodes items bytes ≡ many_at one n nodes items bytes
many_enough one stays zero n nodes items bytes h k = absurd (omega (arith, h))
many_enough one stays (suc m) zero nodes items bytes h k = absurd (omega (arith, k))
many_enough {X} one stays (suc m) (suc n) nodes items bytes h k =
    by_comma (rest_behind (codes ",") bytes) refl (λ ns xs bs p q. many_enough one stays m n ns xs bs p q)
  where
    by_item : (rest : List ℕ) (o : Listed X) → one nodes items rest ≡ o → length rest < m → length rest < n
        → ((ns : List Node) (xs : List X) (bs : List ℕ) → length bs < m → length bs < n → many_at one m ns xs bs ≡ many_at one n ns xs bs)
        → (o >>= λ read. many_at one m read.0 read.1 read.2) ≡ (o >>= λ read. many_at one n read.0 read.1 read.2)
    by_item rest None e p q later = refl
    by_item rest (Some read) e p q later =
        let short = stays nodes items rest read e in
        later read.0 read.1 read.2 (omega (arith, short, p)) (omega (arith, short, q))

    by_comma : (o : Option (List ℕ)) → rest_behind (codes ",") bytes ≡ o
        → ((ns : List Node) (xs : List X) (bs : List ℕ) → length bs < m → length bs < n → many_at one m ns xs bs ≡ many_at one n ns xs bs)
        → if_some o (λ rest. one nodes items rest >>= λ read. many_at one m read.0 read.1 read.2) (Some (nodes, items, bytes))
        ≡ if_some o (λ rest. one nodes items rest >>= λ read. many_at one n read.0 read.1 read.2) (Some (nodes, items, bytes))
    by_comma None e later = refl
    by_comma (Some rest) e later =
        let short = behind_shorter 44 bytes rest e in
        by_item rest (one nodes items rest) refl (omega (arith, short, h)) (omega (arith, short, k)) later

-- ---- characters

-- what is left is shorter
abbrev pub Shrinks : (List ℕ → Option (ℕ × List ℕ)) → Type 0
Shrinks one = (bytes : List ℕ) (read : ℕ × List ℕ) → one bytes ≡ Some read → length read.1 < length bytes

pub until_enough : (stop : ℕ) (held : ℕ → List ℕ) (one : List ℕ → Option (ℕ × List ℕ)) → Shrinks one → (m n : ℕ) (front bytes : List ℕ)
    → length bytes < m → length bytes < n → until_at stop held one m front bytes ≡ until_at stop held one n front bytes
until_enough stop held one shrinks zero n front bytes h k = absurd (omega (arith, h))
until_enough stop held one shrinks (suc m) zero front bytes h k = absurd (omega (arith, k))
until_enough stop held one shrinks (suc m) (suc n) front bytes h k =
    by_stop (rest_behind (stop ∷ []) bytes) (λ fs bs p q. until_enough stop held one shrinks m n fs bs p q)
  where
    by_one : (o : Option (ℕ × List ℕ)) → one bytes ≡ o
        → ((fs bs : List ℕ) → length bs < m → length bs < n → until_at stop held one m fs bs ≡ until_at stop held one n fs bs)
        → (o >>= λ read. until_at stop held one m (front ++ held read.0) read.1) ≡ (o >>= λ read. until_at stop held one n (front ++ held read.0) read.1)
    by_one None e later = refl
    by_one (Some read) e later =
        let short = shrinks bytes read e in
        later (front ++ held read.0) read.1 (omega (arith, short, h)) (omega (arith, short, k))

    by_stop : (o : Option (List ℕ))
        → ((fs bs : List ℕ) → length bs < m → length bs < n → until_at stop held one m fs bs ≡ until_at stop held one n fs bs)
        → if_some o (λ rest. Some (front, rest)) (one bytes >>= λ read. until_at stop held one m (front ++ held read.0) read.1)
        ≡ if_some o (λ rest. Some (front, rest)) (one bytes >>= λ read. until_at stop held one n (front ++ held read.0) read.1)
    by_stop (Some rest) later = refl
    by_stop None later = by_one (one bytes) refl later

-- ---- texts and names

text_step : (n : ℕ) (front bytes : List ℕ) → length bytes < n → until_at 34 encode_utf8 character_at n front bytes ≡ characters_at front bytes
unfolding characters_at
text_step n front bytes h = until_enough 34 encode_utf8 character_at character_shrinks n (suc (length bytes)) front bytes h (omega arith)

pub text_end : (front bytes rest : List ℕ) → rest_behind (34 ∷ []) bytes ≡ Some rest → characters_at front bytes ≡ Some (front, rest)
unfolding characters_at
text_end front bytes rest e = rw e refl

pub text_none : (front bytes : List ℕ) → rest_behind (34 ∷ []) bytes ≡ None → character_at bytes ≡ None → characters_at front bytes ≡ None
unfolding characters_at
text_none front bytes e f = rw (e, f) refl

text_more_at : (n : ℕ) (front bytes rest : List ℕ) (c : ℕ) → rest_behind (34 ∷ []) bytes ≡ None → character_at bytes ≡ Some (c, rest)
    → until_at 34 encode_utf8 character_at (suc n) front bytes ≡ until_at 34 encode_utf8 character_at n (front ++ encode_utf8 c) rest
text_more_at n front bytes rest c e f = rw (e, f) refl

pub text_more : (front bytes rest : List ℕ) (c : ℕ) → rest_behind (34 ∷ []) bytes ≡ None → character_at bytes ≡ Some (c, rest) → characters_at (front ++ encode_utf8 c) rest ≡ characters_at front bytes
text_more front bytes rest c e f =
    let shorter = character_shrinks bytes (c, rest) f in
    sym (text_step (length bytes) (front ++ encode_utf8 c) rest shorter) ∙ sym (text_more_at (length bytes) front bytes rest c e f)
    ∙ text_step (suc (length bytes)) front bytes (omega arith)

pub text_shorter : (bytes rest : List ℕ) (c : ℕ) → character_at bytes ≡ Some (c, rest) → length rest < length bytes
text_shorter bytes rest c e = character_shrinks bytes (c, rest) e

pub name_shorter : (bytes rest : List ℕ) (b : ℕ) → name_byte_at bytes ≡ Some (b, rest) → length rest < length bytes
name_shorter bytes rest b e = name_shrinks bytes (b, rest) e

name_step : (stop n : ℕ) (front bytes : List ℕ) → length bytes < n → until_at stop (λ b. b ∷ []) name_byte_at n front bytes ≡ name_bytes_at stop front bytes
unfolding name_bytes_at
name_step stop n front bytes h = until_enough stop (λ b. b ∷ []) name_byte_at name_shrinks n (suc (length bytes)) front bytes h (omega arith)

pub name_end : (stop : ℕ) (front bytes rest : List ℕ) → rest_behind (stop ∷ []) bytes ≡ Some rest → name_bytes_at stop front bytes ≡ Some (front, rest)
unfolding name_bytes_at
name_end stop front bytes rest e = rw e refl

pub name_none : (stop : ℕ) (front bytes : List ℕ) → rest_behind (stop ∷ []) bytes ≡ None → name_byte_at bytes ≡ None → name_bytes_at stop front bytes ≡ None
unfolding name_bytes_at
name_none stop front bytes e f = rw (e, f) refl

name_more_at : (stop n : ℕ) (front bytes rest : List ℕ) (b : ℕ) → rest_behind (stop ∷ []) bytes ≡ None → name_byte_at bytes ≡ Some (b, rest)
    → until_at stop (λ b. b ∷ []) name_byte_at (suc n) front bytes ≡ until_at stop (λ b. b ∷ []) name_byte_at n (front ++ b ∷ []) rest
name_more_at stop n front bytes rest b e f = rw (e, f) refl

pub name_more : (stop : ℕ) (front bytes rest : List ℕ) (b : ℕ) → rest_behind (stop ∷ []) bytes ≡ None → name_byte_at bytes ≡ Some (b, rest) → name_bytes_at stop (front ++ b ∷ []) rest ≡ name_bytes_at stop front bytes
name_more stop front bytes rest b e f =
    let shorter = name_shrinks bytes (b, rest) f in
    sym (name_step stop (length bytes) (front ++ b ∷ []) rest shorter) ∙ sym (name_more_at stop (length bytes) front bytes rest b e f)
    ∙ name_step stop (suc (length bytes)) front bytes (omega arith)

-- ---- items

item_stays : (levels : ℕ) → Stays (item_at (value_at levels))
unfolding item_at
item_stays levels nodes items bytes read e =
    from_bind (value_at levels nodes bytes) _ read e (λ one at is.
    let short = value_stays levels nodes bytes one at in
    subst (λ (r : List Node × List ℕ × List ℕ). length r.2 ≤ length bytes) (same_Some _ read is) short)

pair_stays : (levels : ℕ) → Stays (pair_at (value_at levels))
unfolding pair_at
pair_stays levels nodes items bytes read e =
    from_bind (value_at levels nodes bytes) _ read e (λ key at_key e1.
    from_bind (rest_behind (codes ":") key.2) _ read e1 (λ rest at_rest e2.
    from_bind (value_at levels key.0 rest) _ read e2 (λ one at is.
    let first = value_stays levels nodes bytes key at_key in
    let colon = behind_shorter 58 key.2 rest at_rest in
    let second = value_stays levels key.0 rest one at in
    subst (λ (r : List Node × List (ℕ × ℕ) × List ℕ). length r.2 ≤ length bytes) (same_Some _ read is) (omega (arith, first, colon, second)))))

items_step : (levels n : ℕ) (nodes : List Node) (items bytes : List ℕ) → length bytes < n → many_at (item_at (value_at levels)) n nodes items bytes ≡ values_at (value_at levels) nodes items bytes
unfolding values_at
items_step levels n nodes items bytes h = many_enough (item_at (value_at levels)) (item_stays levels) n (suc (length bytes)) nodes items bytes h (omega arith)

pub items_end : (levels : ℕ) (nodes : List Node) (items bytes : List ℕ) → rest_behind (codes ",") bytes ≡ None → values_at (value_at levels) nodes items bytes ≡ Some (nodes, items, bytes)
unfolding values_at
items_end levels nodes items bytes e = rw e refl

pub items_none : (levels : ℕ) (nodes : List Node) (items bytes rest : List ℕ) → rest_behind (codes ",") bytes ≡ Some rest → item_at (value_at levels) nodes items rest ≡ None → values_at (value_at levels) nodes items bytes ≡ None
unfolding values_at
items_none levels nodes items bytes rest e f = rw (e, f) refl

items_more_at : (levels n : ℕ) (nodes : List Node) (items bytes rest : List ℕ) (read : List Node × List ℕ × List ℕ) → rest_behind (codes ",") bytes ≡ Some rest → item_at (value_at levels) nodes items rest ≡ Some read
    → many_at (item_at (value_at levels)) (suc n) nodes items bytes ≡ many_at (item_at (value_at levels)) n read.0 read.1 read.2
items_more_at levels n nodes items bytes rest read e f = rw (e, f) refl

pub items_shorter : (levels : ℕ) (nodes : List Node) (items bytes rest : List ℕ) (read : List Node × List ℕ × List ℕ) → rest_behind (codes ",") bytes ≡ Some rest → item_at (value_at levels) nodes items rest ≡ Some read → length read.2 < length bytes
items_shorter levels nodes items bytes rest read e f = omega (arith, behind_shorter 44 bytes rest e, item_stays levels nodes items rest read f)

pub items_more : (levels : ℕ) (nodes : List Node) (items bytes rest : List ℕ) (read : List Node × List ℕ × List ℕ) → rest_behind (codes ",") bytes ≡ Some rest → item_at (value_at levels) nodes items rest ≡ Some read
    → values_at (value_at levels) read.0 read.1 read.2 ≡ values_at (value_at levels) nodes items bytes
items_more levels nodes items bytes rest read e f =
    let shorter = items_shorter levels nodes items bytes rest read e f in
    sym (items_step levels (length bytes) read.0 read.1 read.2 shorter) ∙ sym (items_more_at levels (length bytes) nodes items bytes rest read e f)
    ∙ items_step levels (suc (length bytes)) nodes items bytes (omega arith)

-- ---- keys and values

pairs_step : (levels n : ℕ) (nodes : List Node) (items : List (ℕ × ℕ)) (bytes : List ℕ) → length bytes < n → many_at (pair_at (value_at levels)) n nodes items bytes ≡ pairs_at (value_at levels) nodes items bytes
unfolding pairs_at
pairs_step levels n nodes items bytes h = many_enough (pair_at (value_at levels)) (pair_stays levels) n (suc (length bytes)) nodes items bytes h (omega arith)

pub pairs_end : (levels : ℕ) (nodes : List Node) (items : List (ℕ × ℕ)) (bytes : List ℕ) → rest_behind (codes ",") bytes ≡ None → pairs_at (value_at levels) nodes items bytes ≡ Some (nodes, items, bytes)
unfolding pairs_at
pairs_end levels nodes items bytes e = rw e refl

pub pairs_none : (levels : ℕ) (nodes : List Node) (items : List (ℕ × ℕ)) (bytes rest : List ℕ) → rest_behind (codes ",") bytes ≡ Some rest → pair_at (value_at levels) nodes items rest ≡ None → pairs_at (value_at levels) nodes items bytes ≡ None
unfolding pairs_at
pairs_none levels nodes items bytes rest e f = rw (e, f) refl

pairs_more_at : (levels n : ℕ) (nodes : List Node) (items : List (ℕ × ℕ)) (bytes rest : List ℕ) (read : List Node × List (ℕ × ℕ) × List ℕ) → rest_behind (codes ",") bytes ≡ Some rest → pair_at (value_at levels) nodes items rest ≡ Some read
    → many_at (pair_at (value_at levels)) (suc n) nodes items bytes ≡ many_at (pair_at (value_at levels)) n read.0 read.1 read.2
pairs_more_at levels n nodes items bytes rest read e f = rw (e, f) refl

pub pairs_shorter : (levels : ℕ) (nodes : List Node) (items : List (ℕ × ℕ)) (bytes rest : List ℕ) (read : List Node × List (ℕ × ℕ) × List ℕ) → rest_behind (codes ",") bytes ≡ Some rest → pair_at (value_at levels) nodes items rest ≡ Some read → length read.2 < length bytes
pairs_shorter levels nodes items bytes rest read e f = omega (arith, behind_shorter 44 bytes rest e, pair_stays levels nodes items rest read f)

pub pairs_more : (levels : ℕ) (nodes : List Node) (items : List (ℕ × ℕ)) (bytes rest : List ℕ) (read : List Node × List (ℕ × ℕ) × List ℕ) → rest_behind (codes ",") bytes ≡ Some rest → pair_at (value_at levels) nodes items rest ≡ Some read
    → pairs_at (value_at levels) read.0 read.1 read.2 ≡ pairs_at (value_at levels) nodes items bytes
pairs_more levels nodes items bytes rest read e f =
    let shorter = pairs_shorter levels nodes items bytes rest read e f in
    sym (pairs_step levels (length bytes) read.0 read.1 read.2 shorter) ∙ sym (pairs_more_at levels (length bytes) nodes items bytes rest read e f)
    ∙ pairs_step levels (suc (length bytes)) nodes items bytes (omega arith)

-- ---- refusals

pub fails_on : {A B : Type 0} (e : LiteralError) (o : Option A) (p : Option B) → (o ≡ None → p ≡ None) → RefusesLiteral e o → RefusesLiteral e p
fails_on errors.Memory o p then h = tt
fails_on errors.NotLiteral o p then h = then h

-- what is read is refused for want of memory alone
pub fails_some : {A B : Type 0} (e : LiteralError) (o : Option A) (x : A) (p : Option B) → o ≡ Some x → RefusesLiteral e o → RefusesLiteral e p
fails_some errors.Memory o x p is h = tt
fails_some errors.NotLiteral o x p is h = absurd (differ (sym h ∙ is))
  where
    differ : None ≡ Some x → ⊥
    differ e = cc
