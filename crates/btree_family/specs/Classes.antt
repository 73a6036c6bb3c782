-- The classes of BTrees. From: the BTrees package, whose classes have their family's letters in their names.
use Rattle.std.specs.Prelude.{◌≡◌, ℕ, Bool, true, false, List, [], ◌∷◌, ◌++◌, codes, Option, Some, None, slice_get, eqb, ◌&&◌, if◌then◌else◌}
use Rattle.std.specs.Cmp.Lexicographic.{pointwise}
use Rattle.btree_family.specs.declared.table.ClassRow.{ClassRow}
use Rattle.btree_family.specs.declared.table.Kind.{Kind}
use Rattle.btree_family.specs.declared.table.Kind.TheVariants as kinds
use Rattle.btree_family.specs.declared.table.KeyKind.{KeyKind}
use Rattle.btree_family.specs.declared.table.KeyKind.TheVariants as keys
use Rattle.btree_family.specs.declared.table.ValueKind.{ValueKind}
use Rattle.btree_family.specs.declared.table.ValueKind.TheVariants as values

-- a class: where it is known, and what its objects hold
pub record Class : Type 0 where
  pub module_name : List ℕ
  pub class_name : List ℕ
  pub kind : Kind
  pub key : KeyKind
  pub value : ValueKind

-- the class that a row of the program's table says
abbrev pub class_seen : ClassRow → Class
class_seen row = record { module_name = row.«module».now; class_name = row.name.now; kind = row.kind; key = row.key; value = row.value }

-- the letters of a family
abbrev pub key_letter : KeyKind → List ℕ
key_letter keys.Object = codes "O"
key_letter keys.Int32 = codes "I"
key_letter keys.Int64 = codes "L"

abbrev pub value_letter : ValueKind → List ℕ
value_letter values.Object = codes "O"
value_letter values.Int32 = codes "I"
value_letter values.Int64 = codes "L"

abbrev pub letters : KeyKind → ValueKind → List ℕ
letters key value = key_letter key ++ value_letter value

-- what stands behind the letters in the name of a class
abbrev pub kind_text : Kind → List ℕ
kind_text kinds.Bucket = codes "Bucket"
kind_text kinds.Set = codes "Set"
kind_text kinds.Tree = codes "BTree"
kind_text kinds.TreeSet = codes "TreeSet"

-- a class of a family
abbrev pub class_of : KeyKind → ValueKind → Kind → Class
class_of key value kind = record {
  module_name = codes "BTrees." ++ (letters key value ++ codes "BTree");
  class_name = letters key value ++ kind_text kind;
  kind = kind;
  key = key;
  value = value;
}

-- the four classes of a family, with others behind them
abbrev pub with_family : KeyKind → ValueKind → List Class → List Class
with_family key value others =
    class_of key value kinds.Bucket ∷ class_of key value kinds.Set ∷ class_of key value kinds.Tree ∷ class_of key value kinds.TreeSet ∷ others

-- the seven families: OO, OI, IO, II, OL, LO and LL
abbrev pub classes : List Class
classes =
    with_family keys.Object values.Object (with_family keys.Object values.Int32 (with_family keys.Int32 values.Object (with_family keys.Int32 values.Int32
    (with_family keys.Object values.Int64 (with_family keys.Int64 values.Object (with_family keys.Int64 values.Int64 []))))))

-- the class is known by this module and name
abbrev pub is_known_as : List ℕ → List ℕ → Class → Bool
is_known_as module_name class_name class = pointwise eqb class.module_name module_name && pointwise eqb class.class_name class_name

-- the first class of a module and a name
abbrev pub class_in : List Class → List ℕ → List ℕ → Option Class
class_in [] module_name class_name = None
class_in (class ∷ rest) module_name class_name = if is_known_as module_name class_name class then Some class else class_in rest module_name class_name

-- one of these has this module and this name
abbrev pub has_class : List Class → List ℕ → List ℕ → Bool
has_class [] module_name class_name = false
has_class (class ∷ rest) module_name class_name = if is_known_as module_name class_name class then true else has_class rest module_name class_name

-- no two of these have the same module and name
abbrev pub no_class_twice : List Class → Bool
no_class_twice [] = true
no_class_twice (class ∷ rest) = if has_class rest class.module_name class.class_name then false else no_class_twice rest

-- classes with the same module and name stand at the same place
abbrev pub ClassStandsOnce : Type 0
ClassStandsOnce =
    (i j : ℕ) (a b : Class) → slice_get classes i ≡ Some a → slice_get classes j ≡ Some b → a.module_name ≡ b.module_name → a.class_name ≡ b.class_name → i ≡ j

-- a module and a name lead to each class that has them
abbrev pub NamesLeadToClass : Type 0
NamesLeadToClass = (i : ℕ) (class : Class) → slice_get classes i ≡ Some class → class_in classes class.module_name class.class_name ≡ Some class

-- what the leaves of such objects are: of a tree buckets, of a tree of keys alone sets
abbrev pub leaf_kind : Kind → Kind
leaf_kind kinds.Bucket = kinds.Bucket
leaf_kind kinds.Set = kinds.Set
leaf_kind kinds.Tree = kinds.Bucket
leaf_kind kinds.TreeSet = kinds.Set

-- the two are the same
abbrev pub is_kind : Kind → Kind → Bool
is_kind kinds.Bucket kinds.Bucket = true
is_kind kinds.Set kinds.Set = true
is_kind kinds.Tree kinds.Tree = true
is_kind kinds.TreeSet kinds.TreeSet = true
is_kind a b = false

-- the first class of a module and a kind
abbrev pub kind_in : List Class → List ℕ → Kind → Option Class
kind_in [] module_name kind = None
kind_in (class ∷ rest) module_name kind =
    if pointwise eqb class.module_name module_name && is_kind class.kind kind then Some class else kind_in rest module_name kind

-- the class of the leaves of a class
abbrev pub leaf_in : List Class → Class → Option Class
leaf_in rows class = kind_in rows class.module_name (leaf_kind class.kind)
