-- An event of the code is an event of the protocol.
use Rattle.std.proofs.Common.{◌≡◌, true, refl}
use Rattle.protocol.specs.Member.{is_event}
use Rattle.wire.specs.declared.events.Event.{Event}
use Rattle.wire.specs.declared.events.Event.TheVariants.{Vote, Proposal, Block, Timeout}
use Rattle.wire.specs.Meaning.{event_of}

pub real_event : (e : Event) → is_event (event_of e) ≡ true
unfolding is_event
real_event (Vote v) = refl
real_event (Proposal o) = refl
real_event (Block x) = refl
real_event Timeout = refl
