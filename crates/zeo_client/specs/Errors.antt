-- What errors of frames and messages are to a client. Own.
use Rattle.std.specs.Prelude.{Option, Some, None}
use Rattle.zeo_frames.specs.declared.error.FrameError.{FrameError}
use Rattle.zeo_frames.specs.declared.error.FrameError.TheVariants as frame
use Rattle.zeo_reading.specs.declared.error.MessageError.{MessageError}
use Rattle.zeo_reading.specs.declared.error.MessageError.TheVariants as message
use Rattle.zeo_client.specs.declared.error.ClientError.{ClientError}
use Rattle.zeo_client.specs.declared.error.ClientError.TheVariants.{FrameTooLong, BadMessage, LinkFault, Closed, Memory}

abbrev pub of_frame : FrameError → ClientError
of_frame (frame.FrameTooLong length) = FrameTooLong length
of_frame frame.Memory = Memory

abbrev pub of_message : MessageError → ClientError
of_message message.BadMessage = BadMessage
of_message message.Memory = Memory

-- a payload isn't read for one of these
abbrev pub IsReadError : ClientError → Type 0
IsReadError BadMessage = Unit {0}
IsReadError Memory = Unit {0}
IsReadError _ = ⊥

-- and a piece isn't taken for one of these
abbrev pub IsFeedError : ClientError → Type 0
IsFeedError (FrameTooLong length) = Unit {0}
IsFeedError BadMessage = Unit {0}
IsFeedError Memory = Unit {0}
IsFeedError _ = ⊥

abbrev pub IsFeedErrorIfSome : Option ClientError → Type 0
IsFeedErrorIfSome None = Unit {0}
IsFeedErrorIfSome (Some error) = IsFeedError error

pub feed_error : (error : ClientError) → IsReadError error → IsFeedError error
feed_error BadMessage is = tt
feed_error Memory is = tt
feed_error LinkFault is = absurd is
feed_error Closed is = absurd is
feed_error (FrameTooLong length) is = absurd is

pub frame_feed_error : (error : FrameError) → IsFeedError (of_frame error)
frame_feed_error (frame.FrameTooLong length) = tt
frame_feed_error frame.Memory = tt
