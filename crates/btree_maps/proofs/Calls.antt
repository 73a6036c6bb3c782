-- Calls that walk over the leaves.
use Rattle.std.proofs.Common.{◌≡◌, ℕ, ◌-◌, ◌^◌, Bool, true, List, [], ◌∷◌, Option, Some, Result, Err, sym, ◌∙◌, ap, subst}
use Rattle.std.specs.Prelude.{◌&&◌}
use Rattle.btree_family.specs.declared.key.Key.{Key}
use Rattle.btree_family.specs.declared.bucket.Item.{Item}
use Rattle.btree_family.specs.Classes.{Class}
use Rattle.btree_family.specs.Families.{key_fits}
use Rattle.btree_shapes.specs.declared.error.TreeError.{TreeError}
use Rattle.btree_shapes.specs.declared.error.TreeError.TheVariants.{NotATree, NodeMissing, BadKey, Refused, Memory}
use Rattle.btree_maps.specs.declared.span.Span.{Span}
use Rattle.btree_maps.specs.declared.span.Span.TheVariants.{All, Within}
use Rattle.btree_shapes.specs.Nodes.{Held, Nothing, Foreign, class_held, objects_of}
use Rattle.btree_shapes.specs.Reading.{IsReadError}
use Rattle.btree_shapes.specs.Ways.{IsRefusal, Answers, family_key}
use Rattle.btree_maps.specs.Visits.{visit, visit_held, visited, items_under, range_under}
use Rattle.btree_maps.proofs.Walks.{visit_suc}

root_held : (fits : Bool) (span : Span) (objects : ℕ → Held) (root : ℕ) (held : Held) → objects root ≡ held → visited fits span objects root ≡ visit_held fits span (visit fits span (2 ^ 64 - 1) objects (root ∷ [])) root held
root_held fits span objects root held h = visit_suc fits span (2 ^ 64 - 1) objects [] root ∙ ap (visit_held fits span (visit fits span (2 ^ 64 - 1) objects (root ∷ [])) root) h

unread : (fits : Bool) (span : Span) (objects : ℕ → Held) (root : ℕ) (e : TreeError) → IsReadError (objects root) root e → IsRefusal e (visited fits span objects root)
unread fits span objects root (NotATree other) (o, h) = root_held fits span objects root Foreign h ∙ ap (λ x. Err (NotATree x)) (sym o)
unread fits span objects root (NodeMissing other) (o, h) = root_held fits span objects root Nothing h ∙ ap (λ x. Err (NodeMissing x)) (sym o)
unread fits span objects root BadKey h = absurd h
unread fits span objects root (Refused refusal) h = tt
unread fits span objects root Memory h = tt

pub items_unread : (contents : ℕ → Option (List ℕ)) (root : ℕ) (e : TreeError) → IsReadError (objects_of contents root root) root e → IsRefusal e (items_under contents root)
items_unread contents root e h = unread true All (objects_of contents root) root e h

pub range_unread : (contents : ℕ → Option (List ℕ)) (root : ℕ) (low high : Key) (e : TreeError) → IsReadError (objects_of contents root root) root e → IsRefusal e (range_under contents root low high)
range_unread contents root low high e h = unread (family_key (class_held (contents root)) low && family_key (class_held (contents root)) high) (Within low high) (objects_of contents root) root e h

pub range_walk : (contents : ℕ → Option (List ℕ)) (root : ℕ) (low high : Key) (class : Class) (fits : Bool) (result : Result (List Item) TreeError) → class_held (contents root) ≡ Some class → fits ≡ (key_fits class.key low && key_fits class.key high) → Answers result (visited fits (Within low high) (objects_of contents root) root) → Answers result (range_under contents root low high)
range_walk contents root low high class fits result e f a =
    let g : fits ≡ (family_key (class_held (contents root)) low && family_key (class_held (contents root)) high) = f ∙ ap (λ c. family_key c low && family_key c high) (sym e) in
    subst (λ b. Answers result (visited b (Within low high) (objects_of contents root) root)) g a
