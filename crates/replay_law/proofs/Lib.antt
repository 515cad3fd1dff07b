mod Served
mod FewItems
mod SuchMarks
mod SuchCalls
mod SuchRuns
