use Rattle.std.proofs.Common.{List, [], ◌∷◌, map, refl, sym, ap, ◌∙◌, subst}
use Rattle.std.specs.List.{flat_map}
use Rattle.std.specs.Ordering.{nat_cmp}
use Rattle.std.specs.Cmp.Lexicographic.{slice_cmp}
use Rattle.pt_num.proofs.Steps.{ok-same}
use Rattle.ep_defs.specs.Entry.{Entry}
use Rattle.nt_check.specs.Numbers.{numbers_of}
use Rattle.pt_report.specs.Keys.{key_of, key_order}
use Rattle.pt_report.specs.Report.{trace_lines, trace_of, items_line, provider_line, event_line, numbers_line, stack_line, definitions, used_definitions, used_stacks, thread_lines, lines_of}
use Rattle.pt_report.specs.state.Events.{provider_of}
use Rattle.pt_report.specs.state.Shows.{Shows, totals_of}
use Rattle.pt_report.proofs.Printed.{put-more}
use Rattle.pt_report.proofs.report.Report.print.Goals as goal

pub returns : goal.returns
returns c = λ kinds entries r told.
    let counters = c.args.self.now.counters in
    let shows : Shows kinds entries counters = subst (λ (all : List Entry). Shows kinds all counters) (ok-same r.entries entries (sym r.told ∙ told)) r.shows in
    let trace = trace_lines (trace_of kinds) in
    let totals = totals_of kinds in
    let items = items_line totals.events totals.metadata totals.stacks totals.points in
    let providers = lines_of (slice_cmp nat_cmp) provider_line (map provider_of (definitions kinds)) (map provider_of (used_definitions entries)) in
    let events = lines_of key_order event_line (map key_of (definitions kinds)) (map key_of (used_definitions entries)) in
    let threads = thread_lines kinds in
    let stacks = lines_of (slice_cmp nat_cmp) stack_line (used_stacks entries) (used_stacks entries) in
    let one = put-more [] _ c.put_trace.new.out.items _ trace c.new-out.ensures.items c.in_ok-put_trace.ensures (ap trace_lines shows.trace_is) in
    let two = put-more (trace ∷ []) _ c.put_items.new.out.items _ items one c.in_ok-put_items.ensures (ap (λ t. items_line t.events t.metadata t.stacks t.points) shows.totals_are) in
    let three = put-more (trace ∷ items ∷ []) _ c.put_providers.new.out.items _ providers two (c.in_ok-put_providers.ensures _ _ shows.events_are.providers) refl in
    let four = put-more (trace ∷ items ∷ providers ∷ []) _ c.put_events.new.out.items _ events three (c.in_ok-put_events.ensures _ _ shows.events_are.events_are) refl in
    let five = put-more (trace ∷ items ∷ providers ∷ events ∷ []) _ c.put_threads.new.out.items _ threads four (c.in_ok-put_threads.ensures kinds r.took) (ap (flat_map (λ thread. numbers_line thread (numbers_of thread kinds))) shows.threads_are.ordered) in
    put-more (trace ∷ items ∷ providers ∷ events ∷ threads ∷ []) _ c.put_stacks.new.out.items _ stacks five (c.in_ok-put_stacks.ensures _ _ shows.stacks_are.counted) refl
