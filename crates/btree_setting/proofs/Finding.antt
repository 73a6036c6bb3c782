-- What a set finds by its way.
use Rattle.std.proofs.Common.{◌≡◌, ℕ, Bool, true, false, List, [], ◌∷◌, ◌++◌, Option, Some, None, Result, Ok, Err, refl, sym, ◌∙◌, ap, subst, append-nil}
use Rattle.std.specs.Prelude.{IsTrue, ◌↔◌}
use Rattle.btree_family.specs.declared.key.Key.{Key}
use Rattle.btree_shapes.specs.declared.error.TreeError.{TreeError}
use Rattle.btree_shapes.specs.declared.error.TreeError.TheVariants.{NotATree, NodeMissing, BadKey, Refused, Memory}
use Rattle.btree_shapes.specs.declared.path.Step.{Step}
use Rattle.btree_shapes.specs.declared.way.Found.{Found}
use Rattle.btree_shapes.specs.declared.space.Call.{Call}
use Rattle.btree_shapes.specs.Nodes.{Held}
use Rattle.btree_shapes.specs.Met.{ReadsFirst}
use Rattle.btree_shapes.specs.Ways.{Answers, IsRefusal, reads}
use Rattle.btree_setting.specs.declared.bottom.Bottom.{Bottom}
use Rattle.btree_setting.specs.declared.bottom.End.{End}
use Rattle.btree_setting.specs.declared.preparing.Sizes.{Sizes}
use Rattle.btree_setting.specs.declared.preparing.Task.{Task}
use Rattle.btree_setting.specs.declared.rung.Rung.{Rung}
use Rattle.btree_setting.specs.Bottoms.{bottom_of}
use Rattle.btree_putting.specs.Firsts.{is_none}
use Rattle.btree_setting.specs.Rungs.{settle, asked}
use Rattle.btree_setting.specs.Tasks.{end_of, rungs_above, with_rungs, task_for, task_found, asked_for, asked_found}

-- the end of the way is that of the definition
pub none_is : (path : List Step) (b : Bool) → IsTrue b ↔ (path ≡ []) → b ≡ is_none path
none_is [] true e = refl
none_is [] false e = cc (e.1 refl)
none_is (x ∷ xs) true e = cc (e.0 refl)
none_is (x ∷ xs) false e = refl

pub found_none : (objects : ℕ → Held) (fits : Bool) (sizes : Sizes) (key : Key) (value : Option (List ℕ)) (found : Found) → bottom_of (end_of found) key value ≡ None → task_found objects fits sizes key value found ≡ Ok None
found_none objects fits sizes key value found e = ap (task_for objects fits sizes key found) e

pub reads_none : (sizes : Sizes) (key : Key) (value : Option (List ℕ)) (found : Found) (log : List Call) → bottom_of (end_of found) key value ≡ None → log ≡ log ++ reads (asked_found sizes key value found)
reads_none sizes key value found log e = sym (append-nil log) ∙ ap (λ b. log ++ reads (asked_for sizes key found b)) (sym e)

pub found_some : (objects : ℕ → Held) (fits : Bool) (sizes : Sizes) (key : Key) (value : Option (List ℕ)) (found : Found) (bottom : Bottom) (rungs : List Rung) → bottom_of (end_of found) key value ≡ Some bottom → settle objects fits key [] (rungs_above sizes key found bottom) ≡ Ok rungs → task_found objects fits sizes key value found ≡ Ok (Some (record { bottom = bottom; rungs = rungs }))
found_some objects fits sizes key value found bottom rungs e s = ap (task_for objects fits sizes key found) e ∙ ap (with_rungs bottom) s

refused_with : (bottom : Bottom) (r : Result (List Rung) TreeError) (e : TreeError) → IsRefusal e r → IsRefusal e (with_rungs bottom r)
refused_with bottom r (NotATree oid) h = ap (with_rungs bottom) h
refused_with bottom r (NodeMissing oid) h = ap (with_rungs bottom) h
refused_with bottom r BadKey h = ap (with_rungs bottom) h
refused_with bottom r (Refused refusal) h = tt
refused_with bottom r Memory h = tt

pub found_refused : (objects : ℕ → Held) (fits : Bool) (sizes : Sizes) (key : Key) (value : Option (List ℕ)) (found : Found) (bottom : Bottom) (e : TreeError) → bottom_of (end_of found) key value ≡ Some bottom → IsRefusal e (settle objects fits key [] (rungs_above sizes key found bottom)) → IsRefusal e (task_found objects fits sizes key value found)
found_refused objects fits sizes key value found bottom e b r =
    subst (λ x. IsRefusal e (task_for objects fits sizes key found x)) (sym b) (refused_with bottom (settle objects fits key [] (rungs_above sizes key found bottom)) e r)

pub reads_some : (sizes : Sizes) (key : Key) (value : Option (List ℕ)) (found : Found) (bottom : Bottom) (log log' : List Call) → bottom_of (end_of found) key value ≡ Some bottom → log' ≡ log ++ reads (asked (rungs_above sizes key found bottom)) → log' ≡ log ++ reads (asked_found sizes key value found)
reads_some sizes key value found bottom log log' e l = l ∙ ap (λ b. log ++ reads (asked_for sizes key found b)) (sym e)

pub met_some : (sizes : Sizes) (key : Key) (value : Option (List ℕ)) (found : Found) (bottom : Bottom) (rungs : List Rung) (log log' : List Call) → bottom_of (end_of found) key value ≡ Some bottom → rungs ≡ rungs_above sizes key found bottom → ReadsFirst (asked rungs) log log' → ReadsFirst (asked_found sizes key value found) log log'
met_some sizes key value found bottom rungs log log' e s r =
    subst (λ b. ReadsFirst (asked_for sizes key found b) log log') (sym e) (subst (λ rs. ReadsFirst (asked rs) log log') s r)
