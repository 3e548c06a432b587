use Rattle.std.proofs.Common.{refl, ap, arith}
use Rattle.values.proofs.Digits.{length_digits}
use Rattle.values.proofs.Pieces.{front_byte, front_more}
use Rattle.protocol.specs.Member.{is_event}
use Rattle.wire.specs.Meaning.{event_of}
use Rattle.wire.proofs.EventsBack.{written_back}
use Rattle.wire.proofs.Fields.{length-vote, length_proposal, timeout_fits, held_block_fits}
use Rattle.wire.proofs.events.write_event.Goals as goal

pub returns-in_ok-room-in-Vote-clause-back : goal.returns-in_ok-room-in-Vote-clause-back
unfolding is_event
returns-in_ok-room-in-Vote-clause-back c =
    let first = front_byte c.args.out.now 0 (omega (arith, c.in_ok-room-in-Vote.ensures.is)) in
    let all = front_more _ 1 _ _ first 64 _ _ (length-vote _) c.write_vote.ensures.is in
    written_back _ _ _ _ 65 (ap event_of c.in-Vote.is) refl c.write_vote.ensures.fits all

pub returns-in_ok-room-in-Proposal-clause-back : goal.returns-in_ok-room-in-Proposal-clause-back
unfolding is_event
returns-in_ok-room-in-Proposal-clause-back c =
    let first = front_byte c.args.out.now 1 (omega (arith, c.in_ok-room-in-Proposal.ensures.is)) in
    let all = front_more _ 1 _ _ first 48 _ _ (length_proposal _) c.write_proposal.ensures.is in
    written_back _ _ _ _ 49 (ap event_of c.in-Proposal.is) refl c.write_proposal.ensures.fits all

pub returns-in_ok-room-in-Block-clause-back : goal.returns-in_ok-room-in-Block-clause-back
unfolding is_event
returns-in_ok-room-in-Block-clause-back c =
    let first = front_byte c.args.out.now 2 (omega (arith, c.in_ok-room-in-Block.ensures.is)) in
    let all = front_more _ 1 _ _ first 32 _ _ (length_digits 256 32 _) c.write_value.ensures.is in
    written_back _ _ _ _ 33 (ap event_of c.in-Block.is) refl (held_block_fits c.in-Block.value) all

pub returns-in_ok-room-in-Timeout-clause-back : goal.returns-in_ok-room-in-Timeout-clause-back
unfolding is_event
returns-in_ok-room-in-Timeout-clause-back c =
    let first = front_byte c.args.out.now 3 (omega (arith, c.in_ok-room-in-Timeout.ensures.is)) in
    written_back _ _ _ _ 1 (ap event_of c.in-Timeout.is) refl timeout_fits first
