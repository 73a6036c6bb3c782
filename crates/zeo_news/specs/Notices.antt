-- What a server sends of news without being asked. From: ZEO; which notice stands for which news is own.
use Rattle.std.specs.Prelude.{ℕ, ◌-◌, Bool, List, [], ◌∷◌, ◌++◌, length, map, nat_le, if◌then◌else◌}
use Rattle.std.specs.List.{concat}
use Rattle.zb_model.specs.declared.news.News.{News}
use Rattle.zb_model.specs.declared.news.NewsCommit.{NewsCommit}
use Rattle.zeo_frames.specs.declared.limit.TheConstants.{FRAME_LIMIT}
use Rattle.zeo_frames.specs.Frames.{frame}
use Rattle.zeo_messages.specs.declared.message.Message.TheVariants.{Told}
use Rattle.zeo_messages.specs.declared.message.Notice.{Notice}
use Rattle.zeo_messages.specs.declared.message.Notice.TheVariants.{Invalidate, Forget, Packed}
use Rattle.zeo_messages.specs.Messages.{payload_of}

-- the payload of a notice
unfoldable pub notice_payload : Notice → List ℕ
notice_payload notice = payload_of (Told notice)

-- a notice in a frame of its own
abbrev pub notice_frame : Notice → List ℕ
notice_frame notice = frame (notice_payload notice)

-- whether its payload is within the limit of frames
abbrev pub fits_frame : Notice → Bool
fits_frame notice = nat_le (length (notice_payload notice)) FRAME_LIMIT

-- a commit is told by its objects; where these don't fit a frame, as that all may be old up to the front that came with the news
abbrev pub commit_notice : ℕ → NewsCommit → Notice
commit_notice front c = if fits_frame (Invalidate c.tid c.oids) then Invalidate c.tid c.oids else Forget front

-- what is told before the commits: that all may be old, or else that the list was packed, by the number before the front
abbrev pub first_notices : ℕ → News → List Notice
first_notices front news = if news.forget then Forget front ∷ [] else if news.packed then Packed (front - 1) ∷ [] else []

-- the notices of news, in order
abbrev pub notices_of : ℕ → News → List Notice
notices_of front news = first_notices front news ++ map (commit_notice front) news.commits

-- their frames
abbrev pub news_frames : ℕ → News → List (List ℕ)
news_frames front news = map notice_frame (notices_of front news)

-- the bytes of the frames, one behind the other
abbrev pub news_text : ℕ → News → List ℕ
news_text front news = concat (news_frames front news)
