-- `put_profile`: what is refused leaves the buffer, and of a book that is not refused the profile is written.
use Rattle.std.proofs.Common.{◌≡◌, sym, ap, subst, List, ℕ, ◌≤◌, length, arith}
use Rattle.adjust.specs.declared.Section.{Section}
use Rattle.adjust.specs.Sections.{sections_of}
use Rattle.adjust.specs.code.Bounds.{Fits}
use Rattle.adjust.proofs.Holding.{sections_count}
use Rattle.rules.specs.declared.Book.{Book}
use Rattle.rules.specs.LineState.{state_of}
use Rattle.plotter.specs.Profile.{profile_refusal}
use Rattle.plotter.specs.code.Reached.{Reached}
use Rattle.plotter.proofs.Written.{start_reached}
use Rattle.plotter.proofs.Refused.{buffer_kept, fits, start_size, long_enough, done}
use Rattle.plotter.proofs.profile.put_profile.Goals as goal

pub returns-in_err-check_profile-clause-buf_after : goal.returns-in_err-check_profile-clause-buf_after
returns-in_err-check_profile-clause-buf_after c = buffer_kept (state_of c.args.b.now) c.args.buf.now c.in_err-check_profile.field-0.0 c.in_err-check_profile.ensures

pub start-start-requires : goal.start-start-requires
start-start-requires c = start_size (state_of c.args.b.now) (length c.args.buf.now) c.in_ok-check_profile.ensures

listed : (b : Book) (room : ℕ) {ss : List Section} → 0 ≡ profile_refusal (state_of b) room → (b.sections.count ≤ 64 → ss ≡ sections_of b.sections) → ss ≡ sections_of b.sections
listed b room e sections = sections (omega (arith, (fits (state_of b) room e).few, sections_count b.sections))

pub put_points-requires : goal.put_points-requires
put_points-requires c =
    let v = state_of c.args.b.now in
    let room = length c.args.buf.now in
    let e = c.in_ok-check_profile.ensures in
    let same = listed c.args.b.now room e c.listed.ensures.sections in (
      omega (arith, long_enough v room e, ap length same),
      (subst Fits (sym same) (fits v room e), subst (Reached 0) (sym c.start-start.ensures) (start_reached v.line.opening (start_size v room e))),
    )

pub returns-clause-profiles : goal.returns-clause-profiles
returns-clause-profiles c = (done (state_of c.args.b.now) c.args.buf.now c.in_ok-check_profile.ensures c.start-start.ensures (listed c.args.b.now (length c.args.buf.now) c.in_ok-check_profile.ensures c.listed.ensures.sections) c.put_points.ensures).0

pub returns-clause-buf_after : goal.returns-clause-buf_after
returns-clause-buf_after c = (done (state_of c.args.b.now) c.args.buf.now c.in_ok-check_profile.ensures c.start-start.ensures (listed c.args.b.now (length c.args.buf.now) c.in_ok-check_profile.ensures c.listed.ensures.sections) c.put_points.ensures).1
