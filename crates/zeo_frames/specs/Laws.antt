-- The law of reading frames. Own.
use Rattle.std.specs.Prelude.{◌≡◌, ◌≢◌, ℕ, List, Option, Some}
use Rattle.zeo_frames.specs.declared.error.FrameError.TheVariants.{Memory}
use Rattle.zeo_frames.specs.Frames.{Reading, HasCome}

-- The same bytes, in whatever pieces they came, give the same payloads and leave the same behind, but where memory was wanting.
abbrev pub AreCutOneWay : Type 0
AreCutOneWay =
    (came : List ℕ) (given other_given : List (List ℕ)) (one other : Reading) → HasCome came given one → HasCome came other_given other →
    one.ended ≢ Some Memory → other.ended ≢ Some Memory → (given ≡ other_given) × (one ≡ other)
