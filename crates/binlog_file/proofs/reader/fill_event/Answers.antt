use Rattle.std.proofs.Common.{◌≡◌, ◌-◌, ℕ, List, Ok, length, take, rules, arith, sym, subst}
use Rattle.std.proofs.lemmas.List.{length-take-le}
use Rattle.binlog_base.specs.Format.{Parses}
use Rattle.binlog_events.specs.declared.error.EventError.TheVariants as error
use Rattle.binlog_file.specs.Stream.{Fills}
use Rattle.binlog_file.specs.Workings.Readers.{raw_in}
use Rattle.binlog_file.proofs.RawRead.{Refused, in_head, full, found_error, head_cut, header_refused, size_refused, rest_cut, whole}
use Rattle.binlog_file.proofs.EventErrors.{header_error, error_uncounted}
use Rattle.binlog_file.proofs.reader.fill_event.Goals as goal

pub returns-then-len-lt19-clause-gives : goal.returns-then-len-lt19-clause-gives
returns-then-len-lt19-clause-gives g c =
    let old = g.S.Source.remaining c.args.source.now in
    let items = c.fill_front.new.buffer.items in
    let len = c.in_ok-len.len in
    let is : length (take len items) ≡ len = length-take-le len items c.in_ok-len.ensures.within in
    subst (λ (k : ℕ). Refused old (error.Cut (19 - k))) is
    (head_cut old (g.S.Source.remaining c.fill_front.new.source) (take len items) c.in_ok-len.ensures.ok (omega (arith, is, c.if-len-eq0.false)) (omega (arith, is, c.if-len-lt19.true)))

pub returns-in_err-header-clause-gives : goal.returns-in_err-header-clause-gives
returns-in_err-header-clause-gives g c =
    let old = g.S.Source.remaining c.args.source.now in
    let new = g.S.Source.remaining c.fill_front.new.source in
    let items = c.fill_front.new.buffer.items in
    let e = c.in_err-header.field-0.0 in
    let front : c.front.result.now ≡ take 19 items = search rules in
    let f = full 19 c.in_ok-len.len items old new c.in_ok-len.ensures.ok c.in_ok-len.ensures.within (omega (arith, c.if-len-lt19.false)) in
    let fills = subst (Fills 19 old new) (sym front) f.0 in
    let long = subst (λ (h : List ℕ). length h ≡ 19) (sym front) f.1 in
    found_error (raw_in (record { head = c.fill_front.new.buffer; rest = c.args.buffer.now.rest })) old new c.from_residual-in_err-header.result e c.from_residual-in_err-header.ensures.1
    (header_refused old new c.front.result.now e fills long c.in_err-header.ensures)

pub returns-in_err-rest_len-clause-gives : goal.returns-in_err-rest_len-clause-gives
returns-in_err-rest_len-clause-gives g c =
    let old = g.S.Source.remaining c.args.source.now in
    let new = g.S.Source.remaining c.fill_front.new.source in
    let items = c.fill_front.new.buffer.items in
    let e = c.in_err-rest_len.field-0.0 in
    let front : c.front.result.now ≡ take 19 items = search rules in
    let f = full 19 c.in_ok-len.len items old new c.in_ok-len.ensures.ok c.in_ok-len.ensures.within (omega (arith, c.if-len-lt19.false)) in
    let fills = subst (Fills 19 old new) (sym front) f.0 in
    let long = subst (λ (h : List ℕ). length h ≡ 19) (sym front) f.1 in
    found_error (raw_in (record { head = c.fill_front.new.buffer; rest = c.args.buffer.now.rest })) old new c.from_residual-in_err-rest_len.result e c.from_residual-in_err-rest_len.ensures.1
    (size_refused old new c.front.result.now c.in_ok-header.header e fills long c.in_ok-header.ensures (sym c.in_err-rest_len.ensures))

pub returns-then-len-rest_len-clause-gives : goal.returns-then-len-rest_len-clause-gives
returns-then-len-rest_len-clause-gives g c =
    let old = g.S.Source.remaining c.args.source.now in
    let mid = g.S.Source.remaining c.fill_front.new.source in
    let new = g.S.Source.remaining c.fill_front-2.new.source in
    let items = c.fill_front.new.buffer.items in
    let rest = c.fill_front-2.new.buffer.items in
    let len = c.in_ok-len-2.len in
    let n = c.in_ok-rest_len.rest_len in
    let front : c.front.result.now ≡ take 19 items = search rules in
    let f = full 19 c.in_ok-len.len items old mid c.in_ok-len.ensures.ok c.in_ok-len.ensures.within (omega (arith, c.if-len-lt19.false)) in
    let fills = subst (Fills 19 old mid) (sym front) f.0 in
    let long = subst (λ (h : List ℕ). length h ≡ 19) (sym front) f.1 in
    let is : length (take len rest) ≡ len = length-take-le len rest c.in_ok-len-2.ensures.within in
    subst (λ (k : ℕ). Refused old (error.Cut (n - k))) is
    (rest_cut old mid new c.front.result.now (take len rest) c.in_ok-header.header n fills long c.in_ok-header.ensures (sym c.in_ok-rest_len.ensures) c.in_ok-len-2.ensures.ok (omega (arith, is, c.if-len-rest_len.true)))

pub returns-clause-gives : goal.returns-clause-gives
returns-clause-gives g c =
    let old = g.S.Source.remaining c.args.source.now in
    let mid = g.S.Source.remaining c.fill_front.new.source in
    let new = g.S.Source.remaining c.fill_front-2.new.source in
    let items = c.fill_front.new.buffer.items in
    let rest = c.fill_front-2.new.buffer.items in
    let n = c.in_ok-rest_len.rest_len in
    let front : c.front.result.now ≡ take 19 items = search rules in
    let f = full 19 c.in_ok-len.len items old mid c.in_ok-len.ensures.ok c.in_ok-len.ensures.within (omega (arith, c.if-len-lt19.false)) in
    let read = subst (λ (h : List ℕ). (x : List ℕ) → Parses (in_head h) (Ok c.in_ok-header.header) x x) front c.in_ok-header.ensures in
    let r = full n c.in_ok-len-2.len rest mid new c.in_ok-len-2.ensures.ok c.in_ok-len-2.ensures.within (omega (arith, c.if-len-rest_len.false)) in
    whole old mid new (take 19 items) (take n rest) c.in_ok-header.header n f.0 f.1 read (sym c.in_ok-rest_len.ensures) r.0 (omega (arith, r.1))

pub returns-in_err-header-clause-counts : goal.returns-in_err-header-clause-counts
returns-in_err-header-clause-counts g c =
    let e = c.in_err-header.field-0.0 in
    error_uncounted c.from_residual-in_err-header.result e (g.S.Source.failures c.args.source.now) (g.S.Source.failures c.fill_front.new.source) c.from_residual-in_err-header.ensures.1
    (header_error c.front.result.now e c.in_err-header.ensures) c.in_ok-len.ensures.counts
