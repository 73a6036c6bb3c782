-- Frames of calls that follow one another.
use Rattle.std.proofs.Common.{◌≡◌, ℕ, ◌+◌, ◌<◌, ◌≤◌, ◌^◌, true, List, [], ◌∷◌, ◌++◌, map, take, length, get_or, refl, sym, ap, subst, ◌∙◌, append_assoc, arith}
use Rattle.std.specs.Prelude.{◌&&◌, nat_lt}
use Rattle.std.proofs.lemmas.Bool.{lt-ltb}
use Rattle.std.proofs.lemmas.List.{append-nil, take_more}
use Rattle.zeo_messages.specs.declared.call.Call.{Call}
use Rattle.zeo_messages.specs.declared.call.Call.TheVariants as calls
use Rattle.zeo_messages.specs.Calls.{fits_call, is_filled}
use Rattle.zeo_client.specs.Asking.{AreSpelled, SpellsBehind, call_frame, call_frames, next_number, number_behind}

frames_push : (n : ℕ) (made : List Call) (call : Call) → call_frames n (made ++ call ∷ []) ≡ call_frames n made ++ call_frame (next_number (number_behind n made)) call
frames_push n [] call = append-nil (call_frame (next_number n) call)
frames_push n (c ∷ made) call =
    ap (λ (rest : List ℕ). call_frame (next_number n) c ++ rest) (frames_push (next_number n) made call)
    ∙ sym (append_assoc (call_frame (next_number n) c) (call_frames (next_number n) made) (call_frame (next_number (number_behind (next_number n) made)) call))

number_push : (n : ℕ) (made : List Call) (call : Call) → number_behind n (made ++ call ∷ []) ≡ next_number (number_behind n made)
number_push n [] call = refl
number_push n (c ∷ made) call = number_push (next_number n) made call

pub put_one : (call : Call) (text : List ℕ) (number : ℕ) (now : List ℕ) (now_number : ℕ) → now ≡ text ++ call_frame (next_number number) call → now_number ≡ next_number number → SpellsBehind (call ∷ []) text number now now_number
put_one call text number now now_number put next = record {
  each = λ first made spelled. record {
    frames =
        put ∙ ap (λ (t : List ℕ). t ++ call_frame (next_number number) call) spelled.frames
        ∙ ap (λ (k : ℕ). call_frames first made ++ call_frame (next_number k) call) spelled.last
        ∙ sym (frames_push first made call);
    last = next ∙ ap next_number spelled.last ∙ sym (number_push first made call);
  };
}

pub none_behind : (text : List ℕ) (number : ℕ) → SpellsBehind [] text number text number
none_behind text number = record { each = λ first made spelled. subst (λ (cs : List Call). AreSpelled first cs text number) (sym (append-nil made)) spelled }

pub twice_behind : (more last : List Call) (text : List ℕ) (number : ℕ) (mid : List ℕ) (mid_number : ℕ) (now : List ℕ) (now_number : ℕ) → SpellsBehind more text number mid mid_number
    → SpellsBehind last mid mid_number now now_number → SpellsBehind (more ++ last) text number now now_number
twice_behind more last text number mid mid_number now now_number one two = record {
  each = λ first made spelled. subst (λ (cs : List Call). AreSpelled first cs now now_number) (append_assoc made more last) (two.each first (made ++ more) (one.each first made spelled));
}

pub from_none : (made : List Call) (number : ℕ) (now : List ℕ) (now_number : ℕ) → SpellsBehind made [] number now now_number → AreSpelled number made now now_number
from_none made number now now_number behind = behind.each number [] (record { frames = refl; last = refl })

module _ {X : Type 0} (call_of : X → Call) where
  mapped_push : (xs : List X) (x : X) → map call_of (xs ++ x ∷ []) ≡ map call_of xs ++ call_of x ∷ []
  mapped_push [] x = refl
  mapped_push (y ∷ xs) x = ap (λ (cs : List Call). call_of y ∷ cs) (mapped_push xs x)

  pub one_more_behind : (xs : List X) (i : ℕ) (d : X) (text : List ℕ) (number : ℕ) (mid : List ℕ) (mid_number : ℕ) (now : List ℕ) (now_number : ℕ) → i < length xs
      → SpellsBehind (map call_of (take i xs)) text number mid mid_number → SpellsBehind (call_of (get_or xs i d) ∷ []) mid mid_number now now_number
      → SpellsBehind (map call_of (take (i + 1) xs)) text number now now_number
  one_more_behind xs i d text number mid mid_number now now_number lt one two =
      subst (λ (cs : List Call). SpellsBehind cs text number now now_number)
      (sym (ap (map call_of) (take_more xs i d lt) ∙ mapped_push (take i xs) (get_or xs i d)))
      (twice_behind (map call_of (take i xs)) (call_of (get_or xs i d) ∷ []) text number mid mid_number now now_number one two)

-- a record may be stored
filled : (bytes : List ℕ) → 0 < length bytes → is_filled bytes ≡ true
filled [] some = absurd (omega (arith, some))
filled (b ∷ bytes) some = refl

pub record_fits : (oid base : ℕ) (bytes : List ℕ) → 0 < length bytes → length bytes ≤ 2 ^ 24 → fits_call (calls.Storea oid base bytes) ≡ true
record_fits oid base bytes some short =
    let below : length bytes < 2 ^ 32 = omega (arith, short) in
    rw (filled bytes some) (lt-ltb (length bytes) (2 ^ 32) below)
