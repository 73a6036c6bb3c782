-- Notices that fit a frame, whatever they say. For the proofs of those who write them.
use Rattle.std.proofs.Common.{◌≡◌, ℕ, ◌≤◌, [], ◌∷◌, ◌++◌, length, length-append, arith}
use Rattle.zeo_frames.specs.declared.limit.TheConstants.{FRAME_LIMIT}
use Rattle.zeo_messages.specs.declared.message.Notice.TheVariants.{Forget, Packed}
use Rattle.zeo_values.specs.LengthLaws.{id_length}
use Rattle.zeo_values.specs.Values.{count_text, id_text, name_text}
use Rattle.zeo_news.specs.Notices.{notice_payload}

-- a tuple of one number, and what stands behind it in a payload
one_length : (n : ℕ) → length ((id_text n ++ 0x85 ∷ []) ++ 0x74 ∷ 0x2e ∷ []) ≡ 13
one_length n =
    let e = id_length n in
    let one = length-append (id_text n) (0x85 ∷ []) in
    let all = length-append (id_text n ++ 0x85 ∷ []) (0x74 ∷ 0x2e ∷ []) in
    omega (arith, e, one, all)

pub forget_fits : (front : ℕ) → length (notice_payload (Forget front)) ≤ FRAME_LIMIT
unfolding notice_payload count_text name_text
forget_fits front = let e = one_length front in omega (arith, e)

pub packed_fits : (tid : ℕ) → length (notice_payload (Packed tid)) ≤ FRAME_LIMIT
unfolding notice_payload count_text name_text
packed_fits tid = let e = one_length tid in omega (arith, e)
