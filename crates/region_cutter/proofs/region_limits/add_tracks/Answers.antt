use Rattle.std.proofs.Common.{◌≡◌, ℕ, ◌<◌, ◌+◌, List, None, Some, get_or, subst}
use Rattle.std.specs.Prelude.{slice_get, Contains}
use Rattle.ido_base.specs.declared.location.Location.{Location}
use Rattle.region_cutter.specs.links.RegionLimits.{AddsTracks}
use Rattle.region_cutter.proofs.RegionLimits.{tracks_more, one_more_read, reads_all}
use Rattle.region_cutter.proofs.region_limits.add_tracks.Goals as goal

abbrev none : Location
none = record { variable = 0; lo = 0; hi = 0; key = None }

pub loop-elements-preserved : goal.loop-elements-preserved
loop-elements-preserved c =
    let reads = c.deref-elements-items.result.now in
    let k = c.loop-elements.elements-index in
    tracks_more c.args.past (λ e. (i : ℕ) × (i < k) × (slice_get reads i ≡ Some e)) (λ e. get_or reads k none ≡ e)
    (λ e. (i : ℕ) × (i < k + 1) × (slice_get reads i ≡ Some e)) c.args.tracks.now.items c.loop-elements.tracks.items c.add_track.new.tracks.items
    (one_more_read reads k none c.loop-elements-test.true) c.loop-elements.invariant c.in_ok-add_track.ensures

pub returns : goal.returns
returns c =
    subst (λ (xs : List Location). AddsTracks c.args.past (Contains xs) c.args.tracks.now.items c.loop-elements.tracks.items)
    c.deref-elements-items.ensures.value
    (reads_all c.args.past c.deref-elements-items.result.now c.loop-elements.elements-index c.args.tracks.now.items c.loop-elements.tracks.items
    c.loop-elements-test.false c.loop-elements.invariant)
