use Rattle.std.proofs.Common.{◌≡◌, ◌≤◌, ◌+◌, length, List, ℕ, arith}
use Rattle.test_stores.specs.Growing.{Stands}
use Rattle.ncc_store.proofs.Moments.{started, goes_on, stays}
use Rattle.test_stores.proofs.GrowingLemmas.{stands_same, stands_after}
use Rattle.test_stores.proofs.growing.stage.Goals as goal

pub returns-clause-any_moment : goal.returns-clause-any_moment
returns-clause-any_moment g c told only =
    let S = g.S.Store in
    let start = c.args.store.now in
    let old = S.bytes start in
    let few = c.in_ok-write_at.ensures.images in
    let image = c.in_ok-write_at-2.ensures.images in
    let size : c.args.size ≡ length old = c.requires.size told in
    let behind : length old ≤ c.args.size = omega arith in
    let image_behind : length old ≤ c.args.size + length c.args.few.now = omega arith in
    let at_start = λ (d : List ℕ) (here : S.images start d). stands_same old d (only d here) in
    let after_few = stands_after old _ _ _ behind at_start in
    let after_image = stands_after old _ _ _ image_behind (λ d here. after_few d (few.now d here)) in
    let first = goes_on S.moment S.images_since S.images start start _ (Stands old) _ (started S.moment S.images_since start (Stands old) (λ d here. at_start d (g.met.S.Store.only_now start d here))) few after_few in
    let second = goes_on S.moment S.images_since S.images start _ _ (Stands old) _ first image after_image in
    stays S.moment S.images_since S.bytes S.images start _ c.sync.new.self (Stands old) second c.sync.ensures.unmoved

pub returns-in_err-write_at-2-clause-any_moment : goal.returns-in_err-write_at-2-clause-any_moment
returns-in_err-write_at-2-clause-any_moment g c told only =
    let S = g.S.Store in
    let start = c.args.store.now in
    let old = S.bytes start in
    let few = c.in_ok-write_at.ensures.images in
    let image = c.in_err-write_at-2.ensures.images in
    let size : c.args.size ≡ length old = c.requires.size told in
    let behind : length old ≤ c.args.size = omega arith in
    let image_behind : length old ≤ c.args.size + length c.args.few.now = omega arith in
    let at_start = λ (d : List ℕ) (here : S.images start d). stands_same old d (only d here) in
    let after_few = stands_after old _ _ _ behind at_start in
    let after_image = stands_after old _ _ _ image_behind (λ d here. after_few d (few.now d here)) in
    let first = goes_on S.moment S.images_since S.images start start _ (Stands old) _ (started S.moment S.images_since start (Stands old) (λ d here. at_start d (g.met.S.Store.only_now start d here))) few after_few in
    goes_on S.moment S.images_since S.images start _ _ (Stands old) _ first image after_image
