use Rattle.lv_runner.proofs.Followed.{clean_now, fetch_now, install_now, mark_now, turn_now}
use Rattle.lv_runner.proofs.following.answer_event.Goals as goal

pub turn-requires : goal.turn-requires
turn-requires g c = record { may = turn_now c.args.core.now.run c.args.event.now c.in-Turn.session c.known.ensures.run.places_are c.requires.may c.in-Turn.is }

pub claim_next-requires-clause-setup : goal.claim_next-requires-clause-setup
claim_next-requires-clause-setup g c = fetch_now c.args.core.now.run c.known.ensures.run.places_are c.args.event.now c.in-Fetch.worker c.requires.may c.in-Fetch.is

pub install_slot-requires-clause-setup : goal.install_slot-requires-clause-setup
install_slot-requires-clause-setup g c = install_now c.args.core.now.run c.known.ensures.run.places_are c.args.event.now c.in-Install.worker c.requires.may c.in-Install.is

pub mark-requires-clause-setup : goal.mark-requires-clause-setup
mark-requires-clause-setup g c = mark_now c.args.core.now.run c.known.ensures.run.places_are c.args.event.now c.in-Mark.view c.requires.may c.in-Mark.is

pub clean-requires : goal.clean-requires
clean-requires g c = record { setup = clean_now c.args.core.now.run c.known.ensures.run.places_are c.args.event.now c.requires.may c.in-Clean.is }
