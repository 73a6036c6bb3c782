-- Module and name of each class are lines that a global can have.
use Rattle.std.proofs.Common.{◌≡◌, ℕ, Bool, true, false, List, [], ◌∷◌, Option, Some, None, refl, sym, cond, ◌&&◌, Bor, subst, eqb}
use Rattle.std.specs.Prelude.{IfSome}
use Rattle.std.specs.Option.{option_map, option_copied}
use Rattle.std.specs.Cmp.{first_so, second_so}
use Rattle.std.specs.Str.{is_utf8, chars}
use Rattle.std.specs.Char.{encode_utf8}
use Rattle.pickle_ops.specs.Grammar.{is_one_line, IsGlobalLine}
use Rattle.pickle_graph.specs.Graph.{IsGlobal}
use Rattle.btree_family.specs.declared.table.Kind.{Kind}
use Rattle.btree_family.specs.declared.table.ClassRow.{ClassRow}
use Rattle.btree_family.specs.Classes.{Class, class_seen, classes, class_in, kind_in, is_known_as, is_kind}
use Rattle.std.specs.Cmp.Lexicographic.{pointwise}

abbrev is_line : List ℕ → Bool
is_line text = is_one_line text && is_utf8 text

abbrev are_lines : List Class → Bool
are_lines [] = true
are_lines (class ∷ rest) = is_line class.module_name && is_line class.class_name && are_lines rest

all_are_lines : are_lines classes ≡ true
unfolding is_utf8 chars encode_utf8
all_are_lines = refl

line : (text : List ℕ) → is_line text ≡ true → IsGlobalLine text
line text h = record { one = first_so (is_one_line text) (is_utf8 text) h; utf8 = second_so (is_one_line text) (is_utf8 text) h }

-- the first two of three tests, and the last
first_two : (a b c : Bool) → (a && b && c) ≡ true → (a ≡ true) × (b ≡ true) × (c ≡ true)
first_two a b c h = (first_so a b (first_so (a && b) c h), second_so a b (first_so (a && b) c h), second_so (a && b) c h)

parts : (class : Class) (rest : List Class) → are_lines (class ∷ rest) ≡ true → IsGlobal class.module_name class.class_name × (are_lines rest ≡ true)
parts class rest h =
    let p = first_two (is_line class.module_name) (is_line class.class_name) (are_lines rest) h in
    (record { first = line class.module_name p.0; second = line class.class_name p.1 }, p.2)

-- the one that is found in a list of such classes
found : (t : Bool) (class here : Class) (others : Option Class) → IsGlobal class.module_name class.class_name → ((others ≡ Some here) → IsGlobal here.module_name here.class_name) → cond t (Some class) others ≡ Some here → IsGlobal here.module_name here.class_name
found true class here others one later h = let same : class ≡ here = cc in subst (λ (c : Class). IsGlobal c.module_name c.class_name) same one
found false class here others one later h = later h

class_in-line : (rows : List Class) (m n : List ℕ) (here : Class) → are_lines rows ≡ true → class_in rows m n ≡ Some here → IsGlobal here.module_name here.class_name
class_in-line [] m n here all h = cc
class_in-line (class ∷ rest) m n here all h =
    let p = parts class rest all in
    found (is_known_as m n class) class here (class_in rest m n) p.0 (class_in-line rest m n here p.1) h

kind_in-line : (rows : List Class) (m : List ℕ) (kind : Kind) (here : Class) → are_lines rows ≡ true → kind_in rows m kind ≡ Some here → IsGlobal here.module_name here.class_name
kind_in-line [] m kind here all h = cc
kind_in-line (class ∷ rest) m kind here all h =
    let p = parts class rest all in
    found (pointwise eqb class.module_name m && is_kind class.kind kind) class here (kind_in rest m kind) p.0 (kind_in-line rest m kind here p.1) h

pub row_line : (m n : List ℕ) (o : Option (Bor ClassRow)) → option_map class_seen (option_copied o) ≡ class_in classes m n → IfSome o (λ row. IsGlobal row.now.«module».now row.now.name.now)
row_line m n None e = tt
row_line m n (Some row) e = class_in-line classes m n (class_seen row.now) all_are_lines (sym e)

pub leaf_line : (m : List ℕ) (kind : Kind) (o : Option (Bor ClassRow)) → option_map class_seen (option_copied o) ≡ kind_in classes m kind → IfSome o (λ row. IsGlobal row.now.«module».now row.now.name.now)
leaf_line m kind None e = tt
leaf_line m kind (Some row) e = kind_in-line classes m kind (class_seen row.now) all_are_lines (sym e)
