use Rattle.pt_lines.proofs.line.put_event.Goals as goal

pub returns-in-Lines : goal.returns-in-Lines
returns-in-Lines c = λ origin processor thread entry tells. rw c.in-Lines.is (c.put_event_line.ensures origin processor thread entry tells)

pub returns-in-Json : goal.returns-in-Json
returns-in-Json c = λ origin processor thread entry tells. rw c.in-Json.is (c.put_event.ensures origin processor thread entry tells)

pub returns-in-Chromium : goal.returns-in-Chromium
returns-in-Chromium c = λ origin processor thread entry tells. rw c.in-Chromium.is (c.put_event-in-Chromium.ensures origin processor thread entry tells)

pub returns-in-Page : goal.returns-in-Page
returns-in-Page c = λ origin processor thread entry tells. rw c.in-Page.is (c.put_event-in-Page.ensures origin processor thread entry tells)
