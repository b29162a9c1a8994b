use Rattle.std.proofs.Common.{sym, ◌∙◌, refl, arith}
use Rattle.run_scripts.specs.declared.script.Line.{Line}
use Rattle.run_scripts.specs.declared.script.Command.TheVariants.{Steps}
use Rattle.run_scripts.proofs.Lines.{bad_start, begun, begun_before, few_made, goes_on, is_bad, made_all, may_go, none_found, past_few, past_room, playing}
use Rattle.run_scripts.proofs.few.play_few.Goals as goal

abbrev none : Line
none = record { place = record { 0 = 0 }; command = Steps 0 0 }

pub loop-line-init : goal.loop-line-init
loop-line-init g c = playing g.C.Core _ _ _ _ _ (omega (arith, c.room-floor.ensures, c.requires.room))

pub play_line-requires-clause-starts : goal.play_line-requires-clause-starts
play_line-requires-clause-starts g c = λ _ _ more. may_go _ _ _ (sym c.is_refused.ensures ∙ c.if-is_refused.false) more

pub loop-line-preserved : goal.loop-line-preserved
loop-line-preserved g c =
    goes_on g.C.Core c.loop-line.invariant c.deref-line-items.result.now c.deref-line-items.ensures.value none c.loop-line-test.true
    (g.C.Core.history c.play_line.new.core) c.play_line.ensures.history (sym c.play_line.ensures.all ∙ c.if-not-play_line.false)
    (may_go _ _ _ (sym c.is_refused.ensures ∙ c.if-is_refused.false)) c.play_line.new.core
    c.play_line.ensures.opening refl c.play_line.ensures.room c.play_line.ensures.floor c.play_line.ensures.harts c.play_line.ensures.evictable
    (omega (arith, c.room.ensures, c.if-room-floor-lt-MOST_EVENTS.false))

pub returns-then-is_refused-clause-refused : goal.returns-then-is_refused-clause-refused
returns-then-is_refused-clause-refused g c =
    let both = is_bad _ _ _ (sym c.is_refused.ensures ∙ c.if-is_refused.true) in
    bad_start g.C.Core c.loop-line.invariant c.deref-line-items.result.now c.deref-line-items.ensures.value none c.loop-line-test.true both.0 both.1

pub returns-then-is_refused-clause-begun : goal.returns-then-is_refused-clause-begun
returns-then-is_refused-clause-begun g c =
    let both = is_bad _ _ _ (sym c.is_refused.ensures ∙ c.if-is_refused.true) in
    begun_before g.C.Core c.loop-line.invariant c.deref-line-items.result.now c.deref-line-items.ensures.value none c.loop-line-test.true both.0 both.1

pub returns-then-not-play_line-clause-refused : goal.returns-then-not-play_line-clause-refused
returns-then-not-play_line-clause-refused g c =
    past_room g.C.Core c.loop-line.invariant c.deref-line-items.result.now c.deref-line-items.ensures.value none c.loop-line-test.true
    (g.C.Core.history c.play_line.new.core) c.play_line.ensures.history (sym c.play_line.ensures.all ∙ c.if-not-play_line.true)

pub returns-then-not-play_line-clause-begun : goal.returns-then-not-play_line-clause-begun
returns-then-not-play_line-clause-begun g c =
    begun g.C.Core c.loop-line.invariant c.deref-line-items.result.now c.deref-line-items.ensures.value none c.loop-line-test.true
    (g.C.Core.history c.play_line.new.core) c.play_line.ensures.history (g.C.Core.space c.play_line.new.core) c.play_line.ensures.room
    (may_go _ _ _ (sym c.is_refused.ensures ∙ c.if-is_refused.false))

pub returns-then-room-floor-lt-MOST_EVENTS-clause-refused : goal.returns-then-room-floor-lt-MOST_EVENTS-clause-refused
returns-then-room-floor-lt-MOST_EVENTS-clause-refused g c =
    past_few g.C.Core c.loop-line.invariant c.deref-line-items.result.now c.deref-line-items.ensures.value none c.loop-line-test.true
    (g.C.Core.history c.play_line.new.core) c.play_line.ensures.history (sym c.play_line.ensures.all ∙ c.if-not-play_line.false)
    (may_go _ _ _ (sym c.is_refused.ensures ∙ c.if-is_refused.false)) c.room.result
    (omega (arith, c.room.ensures, c.play_line.ensures.room)) c.if-room-floor-lt-MOST_EVENTS.true

pub returns-then-room-floor-lt-MOST_EVENTS-clause-begun : goal.returns-then-room-floor-lt-MOST_EVENTS-clause-begun
returns-then-room-floor-lt-MOST_EVENTS-clause-begun g c =
    begun g.C.Core c.loop-line.invariant c.deref-line-items.result.now c.deref-line-items.ensures.value none c.loop-line-test.true
    (g.C.Core.history c.play_line.new.core) c.play_line.ensures.history (g.C.Core.space c.play_line.new.core) c.play_line.ensures.room
    (may_go _ _ _ (sym c.is_refused.ensures ∙ c.if-is_refused.false))

pub returns-clause-events : goal.returns-clause-events
returns-clause-events g c = made_all g.C.Core c.loop-line.invariant c.deref-line-items.result.now c.deref-line-items.ensures.value c.loop-line-test.false

pub returns-clause-few : goal.returns-clause-few
returns-clause-few g c = few_made g.C.Core c.loop-line.invariant c.deref-line-items.result.now c.deref-line-items.ensures.value c.loop-line-test.false

pub returns-clause-whole : goal.returns-clause-whole
returns-clause-whole g c = none_found g.C.Core c.loop-line.invariant c.deref-line-items.result.now c.deref-line-items.ensures.value c.loop-line-test.false
