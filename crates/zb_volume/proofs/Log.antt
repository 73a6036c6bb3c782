-- One call more.
use Rattle.std.proofs.Common.{◌≡◌, ℕ, ◌+◌, ◌<◌, length, get_or, take, sym, ◌∙◌, ap, List, [], ◌∷◌, ◌++◌, refl}
use Rattle.std.proofs.lemmas.List.{take_more}
use Rattle.zb_volume.specs.declared.kept.KeptCall.{KeptCall}
use Rattle.zb_volume.specs.Calls.{Call}
use Rattle.zb_volume.specs.Kept.{call_of, calls_from, calls_of}

pub calls_from-push : (earlier : List Call) (kept : List KeptCall) (c : KeptCall) → calls_from earlier (kept ++ c ∷ []) ≡ call_of c ∷ calls_from earlier kept
calls_from-push earlier [] c = refl
calls_from-push earlier (d ∷ kept) c = calls_from-push (call_of d ∷ earlier) kept c

pub calls_of-more : (kept : List KeptCall) (i : ℕ) (x : KeptCall) → i < length kept → x ≡ get_or kept i x → calls_of (take (i + 1) kept) ≡ call_of x ∷ calls_of (take i kept)
calls_of-more kept i x h is = ap calls_of (take_more kept i x h ∙ ap (λ (y : KeptCall). take i kept ++ y ∷ []) (sym is)) ∙ calls_from-push [] (take i kept) x
