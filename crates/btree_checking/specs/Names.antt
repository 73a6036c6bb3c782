-- The names of the rules, as they are printed. Own.
use Rattle.std.specs.Prelude.{ℕ, List, codes}
use Rattle.btree_checking.specs.declared.verdict.Rule.{Rule}
use Rattle.btree_checking.specs.declared.verdict.Rule.TheVariants.{NodeMissing, Shared, NotATree, Keys, Bounds, Depth, Links}

-- a rule's name
abbrev pub name_of : Rule → List ℕ
name_of NodeMissing = codes "NodeMissing"
name_of Shared = codes "Shared"
name_of NotATree = codes "NotATree"
name_of Keys = codes "Keys"
name_of Bounds = codes "Bounds"
name_of Depth = codes "Depth"
name_of Links = codes "Links"
