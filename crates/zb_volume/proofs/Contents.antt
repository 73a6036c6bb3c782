-- One content more.
use Rattle.std.proofs.Common.{◌≡◌, refl, List, [], ◌∷◌, ◌++◌, ℕ, ◌+◌, ◌<◌, length, take, drop, get_or, sym, ◌∙◌, ap, arith}
use Rattle.std.proofs.lemmas.List.{take_more}
use Rattle.std.proofs.lemmas.Grind.{common_steps}
use Rattle.std.specs.Global.{Vec}
use Rattle.zb_volume.specs.Disk.{written}
use Rattle.zb_volume.specs.Replays.{contents_from, contents_of}

pub contents_from-push : (later : List (List ℕ)) (xs : List (Vec ℕ)) (x : Vec ℕ) → contents_from later (xs ++ x ∷ []) ≡ x.items ∷ contents_from later xs
contents_from-push later [] x = refl
contents_from-push later (y ∷ xs) x = contents_from-push (y.items ∷ later) xs x

pub contents_of_push : (xs : List (Vec ℕ)) (x : Vec ℕ) → contents_of (xs ++ x ∷ []) ≡ x.items ∷ contents_of xs
contents_of_push xs x = contents_from-push [] xs x

pub contents_of_more : (xs : List (Vec ℕ)) (i : ℕ) (x : Vec ℕ) → i < length xs → x ≡ get_or xs i x → contents_of (take (i + 1) xs) ≡ x.items ∷ contents_of (take i xs)
contents_of_more xs i x h is = ap contents_of (take_more xs i x h ∙ ap (λ (y : Vec ℕ). take i xs ++ y ∷ []) (sym is)) ∙ contents_of_push (take i xs) x

pub written_front : (old bytes : List ℕ) → written old 0 bytes ≡ bytes ++ drop (length bytes) old
written_front old bytes = grind (arith, common_steps)
